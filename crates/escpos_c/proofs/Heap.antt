-- A call at `T` and `Global`, from code that has only a `T`. Assumes `Logic`.
--     heap, heap_laws, undropped    `Global` as the type argument: its row, its laws, and what drops one, which is nothing
--     Mine, Both                    the token of T's lifetime;  and beside it one of `Global`'s, which is `'static`
--     lend, got_back, lives         the second token is had for nothing, and is let go;  and so it is with the fact that the lifetime is within `Global`'s
use Rattle.escpos_c.proofs.Steps.{[], ◌∷◌, refl, Ura, full_share, Lft, Share, SProp, ent, sep, emp, via, emp∗, mono_l, mono_r, ◌⊑◌, ⊑_static, fact, fact_i, top, Logic, bare, Dict, impl, tcons, tnil, dnil, no, arg, layout, Laws, arg_laws, RattleType, global_row, global_laws}
use Rattle.escpos_c.proofs.Destruct++none.drop.Symbol.{symbol}

abbrev pub heap : RattleType
heap = arg (bare (layout global_row)) no global_row

abbrev pub heap_laws : Laws heap
heap_laws = arg_laws (bare (layout global_row)) no global_row global_laws refl

abbrev pub undropped : Dict
undropped = impl (symbol ∷ []) (tcons (layout heap) tnil) dnil

module _ {M : Type 1} {𝓤 : Ura M} (𝓛 : Logic 𝓤) where
  open 𝓛 use {A}

  also : (P Q : SProp 𝓤) → ent 𝓤 (emp 𝓤) Q → ent 𝓤 (sep 𝓤 P (emp 𝓤)) (sep 𝓤 P (sep 𝓤 Q (emp 𝓤)))
  also P Q q = mono_r 𝓤 P {Q = emp 𝓤} {Q' = sep 𝓤 Q (emp 𝓤)} (via 𝓤 (sep 𝓤 (emp 𝓤) (emp 𝓤)) (emp∗ 𝓤 (emp 𝓤)) (mono_l 𝓤 {P = emp 𝓤} {P' = Q} (emp 𝓤) q))

  module _ (κ : Lft) (q : Share) where
    abbrev pub Mine : SProp 𝓤
    Mine = sep 𝓤 (A.lft κ q) (emp 𝓤)

    abbrev pub Both : SProp 𝓤
    Both = sep 𝓤 (A.lft κ q) (sep 𝓤 (A.lft [] full_share) (emp 𝓤))

    pub lend : ent 𝓤 Mine Both
    lend = also (A.lft κ q) (A.lft [] full_share) (𝓛.lfts.lft-nil full_share)

    pub got_back : ent 𝓤 Both Mine
    got_back = mono_r 𝓤 (A.lft κ q) {Q = sep 𝓤 (A.lft [] full_share) (emp 𝓤)} {Q' = emp 𝓤} (top 𝓤 (sep 𝓤 (A.lft [] full_share) (emp 𝓤)))

    pub lives : (ρ : Lft) → ent 𝓤 (sep 𝓤 (fact 𝓤 (κ ⊑ ρ)) (emp 𝓤)) (sep 𝓤 (fact 𝓤 (κ ⊑ ρ)) (sep 𝓤 (fact 𝓤 ([] ⊑ heap.lives)) (emp 𝓤)))
    lives ρ = also (fact 𝓤 (κ ⊑ ρ)) (fact 𝓤 ([] ⊑ heap.lives)) (fact_i 𝓤 ([] ⊑ heap.lives) (emp 𝓤) (⊑_static []))
