-- `none` stores null, and a slot with no value owns just that its pointer is null.
use Rattle.escpos_c.proofs.Steps.{[], ◌∷◌, refl, a_type, inst_fn, ftrue, ‵, raw, ◌⊛◌, ◌$◌, ◌∵◌, !, qed, done, keep, suffices, split, feq_i, lit, and_then, no_more, returns, enter, alloc_all, pass_all, free_all, look_at, sets, agg, ends_at, says, layouts, param, Ptr, null_ptr, alive, Option, None, proved}
use Rattle.escpos_c.proofs.Slots.{slot_made}
use Rattle.escpos_c.proofs.Word.{word, word_fits}
use Rattle.escpos_c.specs.contracts.slot.Slot.none as f
use Rattle.escpos_c.proofs.slot.Slot.none.Statement.{statement}
use Rattle.escpos_c.proofs.slot.Slot.none.Code as code

pub none_spec : {M : Type 1} → statement M
none_spec 𝓤 𝓛 𝓜 𝓡 wired T L =
    let R = param 0 T in let inst = layouts (a_type ∷ []) (T, tt) in let E = f.ended T in let c = f.clauses T 𝓛 𝓜.mem 𝓡.returns in let v : Option R.Denot = None in
    proved 𝓛 E tt c 𝓜 𝓡 tt (f.Key.name inst) (inst_fn inst code.function) (code.unfolded 𝓤 𝓛.H 𝓜 𝓡 wired (T, tt)) (λ κs. tt) (λ κs. tt) (λ κs qs bounds a g are.
    qed 𝓛 ((raw (alive 𝓛 E.signature κs qs) ⊛ ‵ ftrue) ∷ raw ((c κs a).requires g) ∷ []) ∵ split ! $
    enter ! _ _ _ _ _ $ alloc_all ! (λ l. pass_all ! refl tt $
    sets ! (agg ! (and_then ! (lit ! tt) (no_more !))) refl (word_fits null_ptr) $
    returns ! (look_at ! 0 refl) $ free_all ! refl $
    feq_i ! Ptr null_ptr null_ptr refl $ slot_made R ! null_ptr v $
    -- [the slot; the tokens; nothing; the requirement]
    keep ! (1 ∷ 2 ∷ 0 ∷ []) $ suffices ! _ (ends_at 𝓛 E tt c ((κs, qs, bounds, a, tt), g) (word null_ptr) (record { at = null_ptr; value = v }) tt tt) $ says ! refl $ done !))
