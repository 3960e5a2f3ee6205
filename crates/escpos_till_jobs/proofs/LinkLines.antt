-- A link that was taken out of a line is put back.
use Rattle.std.proofs.Common.{◌≡◌, Option, Some, None, Result, Ok, Err, refl, subst}
use Rattle.std.proofs.Math.Bool.{beq}
use Rattle.std.specs.Prelude.{Bool, true, false, ◌≢◌, IsTrue, IfErr, IfOk, IfSome, OnOk, is_some}
use Rattle.escpos_till.specs.Driver.{Deed}
use Rattle.escpos_till_jobs.specs.LinkLine.{IsPaced, LinkDid, Sink, Source, WithLink}
use Rattle.escpos_till_jobs.specs.declared.link_line.Link.{Link}
use Rattle.escpos_till_jobs.specs.declared.link_line.LinkLine.{LinkLine}

pub linked : {X : Type 0} (Is : Option X → Type 0) (o : Option X) → IsTrue (is_some o) → Is o → (x : X) × Is (Some x) × (o ≡ Some x)
linked Is None some is = absurd cc
linked Is (Some x) some is = (x, is, refl)

-- What is done with the link, once it waits as it is to, is done with the line.
pub with_link : {R W D : Type 0} (from : Source R) (to : Sink W) (paced : D → Link R W → Bool → Link R W → D → Type 0) (old : LinkLine R W D) (d : Deed) (new : LinkLine R W D) (waiting after : Link R W)
    → ((before : Link R W) × (old.link ≡ Some before) × IsPaced paced old.patient new.patient old.dialler before waiting new.dialler
    × (from.to_come waiting.reader ≡ from.to_come before.reader) × (to.written waiting.writer ≡ to.written before.writer)) → new.link ≡ Some after → LinkDid from to waiting d after
    → WithLink from to paced old d new
with_link from to paced old d new waiting after (before, was, waits, to_come, written) is done =
    record { before = before; waiting = waiting; after = after; was = was; is = is; waits = waits; to_come = to_come; written = written; done = done }

pub differ : (a b : Bool) → beq a b ≡ false → a ≢ b
differ true true unlike = λ same. let bad : true ≡ false = unlike in cc
differ true false unlike = λ same. cc
differ false true unlike = λ same. cc
differ false false unlike = λ same. let bad : true ≡ false = unlike in cc

-- A link that was taken out.
pub taken : {X : Type 0} (A : X → Type 0) (o : Option X) (x : X) → o ≡ Some x → IfSome o A → A x
taken A o x is some = subst (λ v. IfSome v A) is some

pub ok_so : {X Y : Type 0} {A B : Type 0} (r : Result X Y) → (A → B) → OnOk r A → OnOk r B
ok_so (Ok x) so a = so a
ok_so (Err y) so a = a

pub both_ok : {X Y : Type 0} (A B : Type 0) (r : Result X Y) → OnOk r A → OnOk r B → OnOk r (A × B)
both_ok A B (Ok x) a b = (a, b)
both_ok A B (Err y) a b = tt

pub if_ok_so : {X Y : Type 0} {A B : X → Type 0} (r : Result X Y) → ((x : X) → A x → B x) → IfOk r A → IfOk r B
if_ok_so (Ok x) so a = so x a
if_ok_so (Err y) so a = a

pub if_err_so : {X Y : Type 0} {A B : Y → Type 0} (r : Result X Y) → ((y : Y) → A y → B y) → IfErr r A → IfErr r B
if_err_so (Ok x) so a = a
if_err_so (Err y) so a = so y a
