-- The parts make the note.
use Rattle.std.proofs.Common.{◌≡◌, ℕ, List, ◌++◌, [], refl, sym, ◌∙◌, ap, subst, append_assoc, append-nil}
use Rattle.std.specs.Prelude.{codes, decimal, if◌then◌else◌}
use Rattle.escpos_job_parts.proofs.real_time.append_note.Goals as goal

in_parts : (kept place : List ℕ) → ((kept ++ codes "note ") ++ place) ++ codes " real-time\n" ≡ kept ++ (codes "note " ++ place ++ codes " real-time\n")
in_parts kept place = simp (append_assoc, append-nil) refl

pub returns-then-hides-clause-kept : goal.returns-then-hides-clause-kept
returns-then-hides-clause-kept c =
    let joined =
    c.extend-then-hides.ensures.kept
    ∙ ap (λ l. l ++ codes " real-time\n") (c.append_number.ensures.kept ∙ ap (λ l. l ++ decimal c.args.place) c.extend.ensures.kept)
    ∙ in_parts c.args.gather.now.kept (decimal c.args.place) in
    subst (λ hides. c.extend-then-hides.new.self.kept ≡ c.args.gather.now.kept ++ (if hides then codes "note " ++ decimal c.args.place ++ codes " real-time\n" else [])) (sym c.if-hides.true) joined
