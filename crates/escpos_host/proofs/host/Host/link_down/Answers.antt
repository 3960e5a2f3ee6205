-- What is cleared fits any receipts.
use Rattle.std.proofs.Common.{◌≡◌, ◌∙◌, ◌+◌, ℕ, List, [], take, sym, ap, subst}
use Rattle.escpos_command.specs.declared.command.Command.{Command}
use Rattle.escpos_host.specs.declared.host.Host.TheInside.{Inside}
use Rattle.escpos_host.specs.declared.host.Stage.TheVariants as stage
use Rattle.escpos_host.specs.Kept.{IsConsistent, put_of, view_of}
use Rattle.escpos_host.specs.Machine.{HostView, gone_down}
use Rattle.escpos_host.specs.Out.{Pending, Within, unsent}
use Rattle.escpos_host.proofs.Views.{fits_open_down, fits_other_down, is_up, open_goes_down, other_goes_down}
use Rattle.escpos_host.proofs.host.Host.link_down.Goals as goal
use Rattle.escpos_host.proofs.host.Host.link_down.Goals.{in-Open, in_default-stage}

-- An open link: the receipts, and the numbers of closing marks, that stay.
record Kept (receipts cut : List (List Command)) (recorded : ℕ) (marks left none : List ℕ) : Type 0 where
  put : cut ≡ put_of receipts recorded marks
  left_are : left ≡ marks
  nothing : none ≡ []

fits_cut : (receipts cut : List (List Command)) (recorded : ℕ) (marks before left none : List ℕ) (out cleared : Pending) (half no_half : List ℕ)
    → Kept receipts cut recorded marks left none → IsConsistent stage.Open receipts recorded marks before out half
    → ((rs : List (List Command)) → Within rs cleared × (unsent rs cleared ≡ [])) → no_half ≡ [] → IsConsistent stage.Down cut recorded none left cleared no_half
fits_cut receipts cut recorded marks before left none out cleared half no_half k fits empty no_more =
    subst (λ rs. IsConsistent stage.Down rs recorded none left cleared no_half) (sym k.put)
    (subst (λ ns. IsConsistent stage.Down (put_of receipts recorded marks) recorded none ns cleared no_half) (sym k.left_are)
    (fits_open_down receipts recorded marks before none out cleared half no_half fits k.nothing empty no_more))

view_cut : (receipts cut : List (List Command)) (recorded : ℕ) (marks before left none : List ℕ) (out cleared : Pending) (half no_half : List ℕ) (next heard : ℕ)
    → Kept receipts cut recorded marks left none → ((rs : List (List Command)) → unsent rs cleared ≡ []) → no_half ≡ []
    → view_of stage.Down cut recorded none left cleared no_half next heard ≡ gone_down (view_of stage.Open receipts recorded marks before out half next heard)
view_cut receipts cut recorded marks before left none out cleared half no_half next heard k empty no_more =
    ap (λ rs. view_of stage.Down rs recorded none left cleared no_half next heard) k.put
    ∙ ap (λ ns. view_of stage.Down (put_of receipts recorded marks) recorded none ns cleared no_half next heard) k.left_are
    ∙ open_goes_down receipts recorded marks before none out cleared half no_half next heard k.nothing empty no_more

pub invariant_of-self : goal.invariant_of-self
invariant_of-self c =
    let h = c.self.inside in
    let empty : (rs : List (List Command)) → Within rs c.clear-2.new.self × (unsent rs c.clear-2.new.self ≡ []) = λ rs. (c.clear-2.ensures.within rs, c.clear-2.ensures.unsent rs) in
    elim c.match-self-2.branch [
      | in-Open w ↦
          let fits : IsConsistent stage.Open h.receipts.items h.recorded h.closing.items h.left.items h.out h.reader =
          subst (λ s. IsConsistent s h.receipts.items h.recorded h.closing.items h.left.items h.out h.reader) w.in-Open.is c.self.invariant in
          let k : Kept h.receipts.items w.truncate.new.self.items h.recorded h.closing.items w.swap.new.x.items w.clear.new.self.items = record {
            put = w.truncate.ensures.items ∙ ap (λ n. take (h.recorded + n) h.receipts.items) w.len.ensures.value;
            left_are = ap (λ v. v.items) w.swap.ensures.x_after;
            nothing = w.clear.ensures;
          } in
          subst (λ (v : Inside). IsConsistent stage.Down v.receipts.items v.recorded v.closing.items v.left.items c.clear-2.new.self c.clear-3.new.self) (sym w.self-inside-is)
          (fits_cut h.receipts.items w.truncate.new.self.items h.recorded h.closing.items h.left.items w.swap.new.x.items w.clear.new.self.items h.out c.clear-2.new.self h.reader c.clear-3.new.self
          k fits empty c.clear-3.ensures)
      | in_default-stage w ↦
          subst (λ (v : Inside). IsConsistent stage.Down v.receipts.items v.recorded v.closing.items v.left.items c.clear-2.new.self c.clear-3.new.self) (sym w.self-inside-is)
          (fits_other_down h.stage h.receipts.items h.recorded h.closing.items h.left.items h.out c.clear-2.new.self h.reader c.clear-3.new.self c.self.invariant w.in_default-stage.not-Open empty
          c.clear-3.ensures)
    ]

gone : (c : goal.After-clear-3)
    → view_of stage.Down c.match-self-2.self-inside.receipts.items c.match-self-2.self-inside.recorded c.match-self-2.self-inside.closing.items c.match-self-2.self-inside.left.items
    c.clear-2.new.self c.clear-3.new.self c.match-self-2.self-inside.next c.match-self-2.self-inside.oldest ≡ gone_down c.args.self.now
gone c =
    let h = c.self.inside in
    elim c.match-self-2.branch [
      | in-Open w ↦
          let k : Kept h.receipts.items w.truncate.new.self.items h.recorded h.closing.items w.swap.new.x.items w.clear.new.self.items = record {
            put = w.truncate.ensures.items ∙ ap (λ n. take (h.recorded + n) h.receipts.items) w.len.ensures.value;
            left_are = ap (λ v. v.items) w.swap.ensures.x_after;
            nothing = w.clear.ensures;
          } in
          ap (λ (v : Inside). view_of stage.Down v.receipts.items v.recorded v.closing.items v.left.items c.clear-2.new.self c.clear-3.new.self v.next v.oldest) w.self-inside-is
          ∙ view_cut h.receipts.items w.truncate.new.self.items h.recorded h.closing.items h.left.items w.swap.new.x.items w.clear.new.self.items h.out c.clear-2.new.self h.reader c.clear-3.new.self
          h.next h.oldest k c.clear-2.ensures.unsent c.clear-3.ensures
          ∙ ap (λ s. gone_down (view_of s h.receipts.items h.recorded h.closing.items h.left.items h.out h.reader h.next h.oldest)) (sym w.in-Open.is) ∙ ap gone_down c.self.view_is
      | in_default-stage w ↦
          ap (λ (v : Inside). view_of stage.Down v.receipts.items v.recorded v.closing.items v.left.items c.clear-2.new.self c.clear-3.new.self v.next v.oldest) w.self-inside-is
          ∙ other_goes_down h.stage h.receipts.items h.recorded h.closing.items h.left.items h.out c.clear-2.new.self h.reader c.clear-3.new.self h.next h.oldest w.in_default-stage.not-Open
          c.clear-2.ensures.unsent c.clear-3.ensures ∙ ap gone_down c.self.view_is
    ]

pub returns : goal.returns
returns c =
    let h = c.self.inside in
    record {
      up = λ _. gone c;
      down = λ e. absurd (is_up h.stage h.receipts.items h.recorded h.closing.items h.left.items h.out h.reader h.next h.oldest c.in_default.not-Down (ap (λ (v : HostView). v.phase) c.self.view_is ∙ e));
    }
