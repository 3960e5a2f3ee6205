-- Steps for the walks of `Slot<T>`, at any row R of T. Assumes `Logic`.
--     slot_made     a slot by value is its pointer, with what `slot_owns` says
--     slot_cases    what `slot_owns` says is one of two: null and no value, or a box at a block, whose pointer may be compared with null
use Rattle.escpos_c.proofs.Steps.{◌≡◌, ℕ, List, [], ◌∷◌, refl, Ura, bare, full_share, via, never, fst∗, snd∗, guard_i, Logic, sem, Item, Goal, Seq, Step, step, ‵, given, ◌$◌, fjoin, feq_l, learn, use1, fact_use, RattleType, lone, Ptr, block_ptr, null_ptr, ptr_val, rawptr_pure, lies_at, Testable, in_a_block, owned, shape, Struct, Struct-Makes, Option, Some, None, box_owns, Global, dealloc_token-Testable, chunk}
use Rattle.escpos_c.specs.Owned.{slot_owns}
use Rattle.escpos_c.specs.contracts.slot.Slot as slot
use Rattle.escpos_c.proofs.Word.{word}

module _ (R : RattleType) {M : Type 1} {𝓤 : Ura M} {𝓛 : Logic 𝓤} {K : Type 0} {Γ : List (Item 𝓤)} {G : Goal 𝓤 𝓛.H} where
  pub slot_made : K → (p : Ptr) (v : Option R.Denot)
      → Step K 𝓛 (‵ ((slot.the_row R).own_val (record { at = p; value = v }) (word p ∷ [])) ∷ Γ) G (‵ (slot_owns R p v) ∷ Γ) G
  slot_made t p v = step (λ s. owned t (Struct (shape (slot.the_type R))) _ (Struct-Makes 𝓛 (shape (slot.the_type R)) (rawptr_pure, tt)) (p, tt) (word p ∷ []) ((ptr_val p ∷ [], tt), (refl, (refl, tt))) $ fjoin t $ s)

  pub slot_cases : K → (a : Global) (p : Ptr) (v : Option R.Denot)
      → (p ≡ null_ptr → v ≡ None → Seq K 𝓛 Γ G)
      → ((b o : ℕ) (x : R.Denot) → p ≡ block_ptr b o → v ≡ Some x → Testable (block_ptr b o) → Seq K 𝓛 (‵ (box_owns chunk R (block_ptr b o) x) ∷ Γ) G)
      → Seq K 𝓛 (‵ (slot_owns R p v) ∷ Γ) G
  slot_cases t a p None empty full = feq_l t (λ e. empty e refl)
  slot_cases t a p (Some x) empty full =
      let τ = bare (lone R.mir) in
      in_a_block t p (λ q. box_owns chunk R q x) (fst∗ 𝓤 (never 𝓤) (sem 𝓛 (chunk τ null_ptr))) (λ b o e. let q = block_ptr b o in let Box = sem 𝓛 (box_owns chunk R q x) in
      use1 𝓛 (given (Testable q) (‵ (box_owns chunk R q x)))
      (fact_use 𝓤 (Testable q) (via 𝓤 (sem 𝓛 (chunk τ q)) (snd∗ 𝓤 (sem 𝓛 (lies_at R full_share q x)) (sem 𝓛 (chunk τ q))) (dealloc_token-Testable 𝓛 a τ q)) (guard_i 𝓤 (Testable q) Box)) $
      learn t (λ test. full b o x e refl test))
