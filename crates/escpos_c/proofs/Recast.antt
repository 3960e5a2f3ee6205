-- `let A { at } = a; B { at: at as *mut _ }`, where a B owns what an A owned. Assumes `Logic`.
-- Whatever A and B are, the machine copies one pointer and touches no memory. So one walk serves both directions of every handle type.
--     recast_fn m n    the code, at the names of A and B
--     runs             it returns the word that it was passed
--     recast           it meets the contract that the value stays, given how A and B are stored
use Rattle.escpos_c.proofs.Steps.{◌≡◌, List, [], ◌∷◌, refl, T, Ura, Fn, Callee, Sym, Tys, ty_ptr, ty_struct, tcons, tnil, local, value_local, assign, seq, return, place, field, rv_opd, copy, aggregate, Val, SProp, ent, emp, ftrue, Calls, Loops, WpFn, Closed, Model, Logic, sem, ‵, raw, ◌⊛◌, ◌$◌, ◌∵◌, !, qed, done, move, keep, suffices, split3, fjoin, use1, stop, fld, of_opd, no_more, and_then, returns, enter, alloc_all, pass_all, free_all, look_at, get, get_in, sets, agg, sub, whole, fact, Running, tables, MachineTables, Last, left, yes, Is, blank, RattleType, Ptr, plain, Clauses, Ended, closing, Meets, Stays, stay_dropped, walk_of, ends_at, says, Goes-blank, proved}
use Rattle.escpos_c.proofs.Word.{word, ptr_fits, word_fits}

abbrev one_ptr : Tys
one_ptr = tcons ty_ptr tnil

abbrev pub recast_fn : Sym → Sym → Fn
recast_fn m n = record {
  lifetimes = 0;
  outlives = [];
  ty_params = [];
  givens = 0;
  params = 1;
  locals = local (ty_struct n one_ptr) value_local ∷ local (ty_struct m one_ptr) value_local ∷ local ty_ptr value_local ∷ local ty_ptr value_local ∷ [];
  body = seq (assign (place 2 []) (rv_opd (copy (place 1 (field 0 ∷ []))))) (seq (assign (place 3 []) (rv_opd (copy (place 2 [])))) (seq (assign (place 0 []) (aggregate (copy (place 3 []) ∷ []))) return));
}

runs : (m n : Sym) (p : Ptr) {M : Type 1} {𝓤 : Ura M} (𝓛 : Logic 𝓤) (C : Calls 𝓤 𝓛.H) (Λ : Loops 𝓤 𝓛.H) (Post : Val → SProp 𝓤)
    → ent 𝓤 (Post (word p)) (WpFn 𝓤 𝓛.H C Λ (recast_fn m n) (word p ∷ []) Post)
runs m n p 𝓛 C Λ Post =
    qed 𝓛 (raw (Post (word p)) ∷ []) ∵ enter ! _ _ _ _ _ $ alloc_all ! (λ l. pass_all ! refl (word_fits p, tt) $
    sets ! (of_opd ! (get_in ! (fld ! refl (stop !)) (sub ! 0 refl (whole !)))) refl (ptr_fits p) $
    sets ! (of_opd ! (get ! refl)) refl (ptr_fits p) $
    sets ! (agg ! (and_then ! (get ! refl) (no_more !))) refl (word_fits p) $
    returns ! (look_at ! 0 refl) $ free_all ! refl $ done !)

-- `at` is the pointer of an A, `as_b` the B that is made of it, and `seen` what a contract calls a B's value
module _ (A B : RattleType) {X : Type 0} (at : A.Denot → Ptr) (as_b : A.Denot → B.Denot) (seen : B.Denot → X) where
  abbrev E : Ended
  E = record { signature = record { lifetimes = 0; outlives = []; params = plain (λ _. A) ∷ []; result = plain (λ _. B) }; kept = (yes, tt) }

  abbrev hs : Stays E.signature.params E.kept
  hs = (stay_dropped (plain (λ _. A)) yes, tt)

  module _ {M : Type 1} (𝓤 : Ura M) (𝓛 : Logic 𝓤) (𝓜 : Model 𝓤 𝓛.H) (𝓡 : Running 𝓤 𝓛.H 𝓜) where
    abbrev 𝓣 : MachineTables 𝓤 𝓛.H 𝓜
    𝓣 = tables 𝓤 𝓛.H 𝓜 𝓡 𝓡.env

    abbrev stays : Clauses 𝓤 E
    stays κs a = record { ghost = Unit {0}; requires = λ _. emp 𝓤; ensures = λ _ b _. fact 𝓤 (seen b ≡ seen (as_b a.0)) }

    pub recast : ((a : A.Denot) → Last (A.exit yes) a) → ((a : A.Denot) (w : Last (A.exit yes) a) → T (blank (left (A.exit yes) a w)))
        → ((a : A.Denot) (vs : List Val) → Is A a vs → vs ≡ word (at a) ∷ [])
        → ((a : A.Denot) (vs : List Val) → ent 𝓤 (sem 𝓛 (A.own_val a vs)) (sem 𝓛 (B.own_val (as_b a) vs)))
        → (m n : Sym) (k : Callee) → Closed 𝓤 𝓛.H 𝓣.C 𝓣.Λ k (recast_fn m n) → Meets 𝓛 E.signature (𝓣.C k) (closing 𝓛 E stays)
    recast last lets told same m n k closed =
        proved 𝓛 E hs stays 𝓜 𝓡 (Goes-blank 𝓛 0 (plain (λ _. A)) yes (λ _. lets), tt) k (recast_fn m n) closed (λ κs. ((λ a. word (at a) ∷ []), tt)) (λ κs. (told, tt)) (λ κs qs bounds args g are.
        let a = args.0 in let vs = word (at a) ∷ [] in let y : (walk_of 𝓛 E hs stays).Ghost = ((κs, qs, bounds, args, (vs, tt)), g) in
        qed 𝓛 ((‵ ftrue ⊛ ‵ (A.own_val a vs) ⊛ ‵ ftrue) ∷ ‵ ftrue ∷ []) ∵ suffices ! _ (runs m n (at a) 𝓛 𝓣.C 𝓣.Λ ((walk_of 𝓛 E hs stays).post y)) $
        split3 ! $ move ! (0 ∷ 2 ∷ []) $ fjoin ! $ move ! (1 ∷ []) $ use1 𝓛 (‵ (B.own_val (as_b a) vs)) (same a vs) $
        -- [B; nothing; what is left of A]
        keep ! (2 ∷ 1 ∷ 0 ∷ []) $ suffices ! _ (ends_at 𝓛 E hs stays y (word (at a)) (as_b a) (last a, tt) (tt, tt)) $ says ! refl $ done !)
