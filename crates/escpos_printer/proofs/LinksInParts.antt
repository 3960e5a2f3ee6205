-- A link in parts, and under paper that was torn off.
use Rattle.std.proofs.Common.{◌≡◌, ℕ, ◌+◌, inl, inr, List, ◌++◌, sym, ◌∙◌, ap, subst, length-append, arith, Option, Some, None}
use Rattle.std.proofs.KnownBytes.{Consumes-trans}
use Rattle.escpos_command.specs.declared.command.Command.{Command}
use Rattle.escpos_paper.specs.declared.item.Item.{Item}
use Rattle.escpos_paper.specs.Page.{Sheet, SheetIs}
use Rattle.escpos_paper.specs.Torn.{below}
use Rattle.escpos_printer.specs.declared.serve.LinkEnd.{LinkEnd}
use Rattle.escpos_printer.specs.declared.serve.LinkEnd.TheVariants.{Ended, TooLong, Fault, Offline, ReadFault, WriteFault, Memory}
use Rattle.escpos_printer.specs.declared.serve.Served.{Served}
use Rattle.escpos_printer.specs.Feeds.{PrinterView, Ran}
use Rattle.escpos_printer.specs.LinkInParts.{in_all, under}
use Rattle.escpos_printer.specs.Serves.{EndsBy, IsLeftBy, IsCarried, LinkView, Serves, link, sent}
use Rattle.escpos_printer.proofs.Taking.{JoinLaw}
use Rattle.escpos_printer.proofs.Serving.{carries_on, passed_of}

-- ## Parts

-- What held of a link at its limit, without the limit.
unended : (p q : PrinterView) (bytes : List ℕ) (a b : Option (List ℕ)) (c n : ℕ) → IsCarried p bytes (sent a b) (record { consumed = c; written = n; end = Some TooLong }) q
    → IsCarried p bytes (sent a b) (record { consumed = c; written = n; end = None }) q
unended p q bytes a b c n h = record { commands = h.commands; taken = h.taken; within = h.within; ran = h.ran; out = h.out; parts = h.parts; answers = h.answers; cause = h.cause; leaves = h.leaves }

pub in_parts : JoinLaw → (p q t : PrinterView) (came left rest before between after : Option (List ℕ)) (most further : ℕ) (first more : Served)
    → Serves p (link came left before between) most first q → first.end ≡ TooLong → Serves q (link left rest between after) further more t
    → Serves p (link came rest before after) (most + further) (in_all first more) t
in_parts join p q t came left rest before between after most further first more h full k =
    let whole =
    subst (λ v. IsCarried p h.bytes (sent before between) (record { consumed = first.consumed; written = first.written; end = Some v }) q) full h.carries in
    let passed = passed_of p q h.bytes before between first.consumed first.written (unended p q h.bytes before between first.consumed first.written whole) in
    record {
      bytes = h.bytes ++ k.bytes;
      came = Consumes-trans came left rest h.bytes k.bytes h.came k.came;
      read = let f = h.read in let g = k.read in let e = length-append h.bytes k.bytes in omega (arith, e, f, g);
      within = let f = h.within in let g = k.within in omega (arith, f, g);
      carries =
          subst (λ v. IsCarried p (h.bytes ++ k.bytes) (sent before after) (record { consumed = v + more.consumed; written = first.written + more.written; end = Some more.end }) t)
          (sym whole.cause)
          (carries_on join p q t h.bytes k.bytes before between after first.written (record { consumed = more.consumed; written = more.written; end = Some more.end }) passed k.carries);
      too_long = λ e. let f = h.too_long full in let g = k.too_long e in omega (arith, f, g);
      early = λ e. let f = h.within in let g = k.early e in omega (arith, f, g);
    }

-- ## Paper above

-- The law of paper above, as escpos_paper states it.
abbrev pub AboveLaw : Type 0
AboveLaw = (width : ℕ) (above : List Item) (old new : Sheet) (first : List Item) (before more : List Command) → SheetIs width old first before → SheetIs width new first (before ++ more)
    → (kept : List Item) (cs : List Command) → SheetIs width (below above old) kept cs → SheetIs width (below above new) kept (cs ++ more)

-- A printer whose sheet is one that commands leave, in lines of its own width, so that commands that follow print there as below
-- any items.
ran_under : AboveLaw → (gone : List Item) (p q : PrinterView) (bytes : List ℕ) (cs : List Command) (width : ℕ) (kept : List Item) (before : List Command)
    → SheetIs width p.sheet kept before → Ran p bytes cs q → Ran (under gone p) bytes cs (under gone q)
ran_under law gone p q bytes cs width kept before is r = record {
  reads = r.reads;
  page = λ others above more h.
      let same : width ≡ others = ap (λ (s : Sheet). s.line_dots) (sym is) ∙ ap (λ (s : Sheet). s.line_dots) h in
      law others gone p.sheet q.sheet kept before cs (subst (λ v. SheetIs v p.sheet kept before) same is)
      (r.page others kept before (subst (λ v. SheetIs v p.sheet kept before) same is)) above more h;
  condition = r.condition;
  automatic = r.automatic;
  passes = r.passes;
}

cause_under : (end : Option LinkEnd) (gone : List Item) (t : PrinterView) (bytes : List ℕ) (k : ℕ) → EndsBy end t bytes k → EndsBy end (under gone t) bytes k
cause_under None gone t bytes k h = h
cause_under (Some Ended) gone t bytes k h = h
cause_under (Some TooLong) gone t bytes k h = h
cause_under (Some ReadFault) gone t bytes k h = h
cause_under (Some WriteFault) gone t bytes k h = h
cause_under (Some (Fault why)) gone t bytes k h = h
cause_under (Some Offline) gone t bytes k h = h
cause_under (Some Memory) gone t bytes k h = h

left_under : (end : Option LinkEnd) (gone : List Item) (t r : PrinterView) (bytes : List ℕ) (k : ℕ) → IsLeftBy end t bytes k r → IsLeftBy end (under gone t) bytes k (under gone r)
left_under None gone t r bytes k h = ap (under gone) h
left_under (Some Ended) gone t r bytes k h = ap (under gone) h
left_under (Some TooLong) gone t r bytes k h = ap (under gone) h
left_under (Some ReadFault) gone t r bytes k h = ap (under gone) h
left_under (Some WriteFault) gone t r bytes k (inl h) = inl (ap (under gone) h)
left_under (Some WriteFault) gone t r bytes k (inr h) = inr (ap (under gone) h.0, h.1, h.2)
left_under (Some (Fault why)) gone t r bytes k h = ap (under gone) h
left_under (Some Offline) gone t r bytes k h = ap (under gone) h
left_under (Some Memory) gone t r bytes k h = ap (under gone) h

pub serves_under : AboveLaw → (gone : List Item) (p q : PrinterView) (l : LinkView) (most : ℕ) (served : Served) (width : ℕ) (kept : List Item) (cs : List Command)
    → SheetIs width p.sheet kept cs → Serves p l most served q → Serves (under gone p) l most served (under gone q)
serves_under law gone p q l most served width kept cs is h =
    let c = h.carries in
    record {
      bytes = h.bytes;
      came = h.came;
      read = h.read;
      within = h.within;
      carries = record {
        commands = c.commands;
        taken = under gone c.taken;
        within = c.within;
        ran = ran_under law gone p c.taken _ c.commands width kept cs is c.ran;
        out = c.out;
        parts = c.parts;
        answers = c.answers;
        cause = cause_under (Some served.end) gone c.taken h.bytes served.consumed c.cause;
        leaves = left_under (Some served.end) gone c.taken q h.bytes served.consumed c.leaves;
      };
      too_long = h.too_long;
      early = h.early;
    }
