-- `of` passes the box on as it is: what `Box::into_raw` leaves of it is what a slot with a value owns.
use Rattle.escpos_c.proofs.Steps.{List, [], ◌∷◌, ◌++◌, refl, ap, full_share, ftrue, id⊢, a_type, dcons, dnil, inst_fn, Val, WpFn, ‵, raw, prop, ◌⊛◌, some, later, ◌$◌, ◌∵◌, !, qed, done, move, keep, drop, split, split3, join, fjoin, feq_l, pick, await, regoal, rewrite, suffices, use1, of_opd, no_more, and_then, returns, enter, alloc_all, pass_all, free_all, look_at, get, sets, lands_as, agg, tables, no, param, layout, bounded, param_laws, Ptr, RawPtr, plain, nothing, only, calls_at, Lasts, lasts, triple_of, framed, Stays, stay_dropped, walk_of, ends_at, says, Some, box_owns, chunk, ghosts, dict, passed, Goes-blank, one, proved_at, global_row, global_laws, box_row, box_laws}
use Rattle.std.specs.contracts.boxed.Box.into_raw as g
use Rattle.std.proofs.boxed.Box.into_raw.Met.{met}
use Rattle.escpos_c.proofs.Destruct++none.drop.Symbol.{glues}
use Rattle.escpos_c.proofs.Heap.{heap, heap_laws, undropped, Mine, Both, lend, got_back, lives}
use Rattle.escpos_c.proofs.Slots.{slot_made}
use Rattle.escpos_c.proofs.Word.{word, ptr_fits, word_fits}
use Rattle.escpos_c.specs.contracts.slot.Slot.of as f
use Rattle.escpos_c.proofs.slot.Slot.of.Statement.{statement}
use Rattle.escpos_c.proofs.slot.Slot.of.Code as code

pub of_spec : {M : Type 1} → statement M
of_spec {M = M} 𝓤 𝓛 𝓜 𝓡 wired T L dx glue =
    let R = param 0 T in let B = box_row R global_row ghosts in let inst = bounded (a_type ∷ []) (T, tt) (dcons dx dnil) in let fn = inst_fn inst code.function in
    let 𝓣 = tables 𝓤 𝓛.H 𝓜 𝓡 𝓡.env in let E = f.ended T dx in let c = f.clauses T dx 𝓛 𝓜.mem 𝓡.returns in let hs : Stays E.signature.params E.kept = (stay_dropped (plain (λ _. B)) no, tt) in
    let G = triple_of 𝓛 (g.signature T heap ghosts dict undropped dx) (g.spec T heap ghosts dict undropped dx 𝓛 𝓜.mem 𝓡.returns) in let D = g.ended T heap ghosts dict undropped dx in
    proved_at 𝓛 E hs c 𝓜 𝓡 (Goes-blank 𝓛 1 (plain (λ _. B)) no (λ κs x w. tt), tt) (f.Key.name inst) fn (code.unfolded 𝓤 𝓛.H 𝓜 𝓡 wired (T, tt) dx) (λ z are.
    let κ = z.0.0.0 in let q = z.0.1.0 in let x = z.0.3.0 in let w = one (layout B) z.0.4.0 (((box_laws R global_row ghosts (param_laws 0 T L) global_laws).lawful 𝓛).typed x z.0.4.0 are.0) in
    let y : G.Ghost = (((κ, ([], tt)), (q, (full_share, tt)), tt, (x, tt), (w.0 ∷ [], tt)), tt) in
    qed 𝓛 ((raw (Mine 𝓛 κ q) ⊛ ‵ (B.own_val x z.0.4.0) ⊛ ‵ ftrue) ∷ raw ((c z.0.0 z.0.3).requires z.1) ∷ []) ∵
    regoal ! (λ (us : List Val). prop (WpFn 𝓤 𝓛.H 𝓣.C 𝓣.Λ fn (us ++ []) ((walk_of 𝓛 E hs c).post z))) w.1 refl $
    split3 ! $ use1 𝓛 (raw (Both 𝓛 κ q)) (lend 𝓛 κ q) $ move ! (1 ∷ []) $ rewrite ! 0 (λ (us : List Val). ‵ (B.own_val x us)) w.1 refl $
    move ! (0 ∷ 2 ∷ []) $ fjoin ! $ move ! (1 ∷ 0 ∷ []) $ join ! $ move ! (1 ∷ []) $
    use1 𝓛 (raw ((g.clauses T heap ghosts dict undropped dx 𝓛 𝓜.mem 𝓡.returns y.0.0 y.0.3).requires tt)) (lives 𝓛 κ q T.lives) $
    move ! (1 ∷ 0 ∷ []) $ join ! $ use1 𝓛 (raw (G.pre y)) (id⊢ 𝓤 _) $
    enter ! _ _ _ _ _ $ alloc_all ! (λ l. pass_all ! refl (w.2, tt) $ sets ! (of_opd ! (get ! refl)) refl w.2 $
    calls_at ! (framed 𝓤 𝓛.H 𝓜 𝓣) G (met 𝓤 𝓛 𝓜 𝓡 (code.calls-std_alloc::boxed::Box::into_raw 𝓡.env wired) T heap L heap_laws ghosts dict undropped dx
    (passed 𝓡.env (code.calls-std_heap::GlobalAllocator::allocate 𝓡.env wired) (code.calls-std_heap::GlobalAllocator::deallocate 𝓡.env wired)
    (code.calls-std_heap::GlobalAllocator::grow 𝓡.env wired) (code.calls-std_heap::GlobalAllocator::shrink 𝓡.env wired) M 𝓤 𝓛 𝓜 𝓡)
    (glues 𝓡.env (code.calls-escpos_c::Destruct++none::drop 𝓡.env wired) heap heap_laws M 𝓤 𝓛 𝓜 𝓡) glue) y (and_then ! (get ! refl) (no_more !)) (λ u.
    use1 𝓛 (later (some (λ (p : Ptr). (raw (Both 𝓛 κ q) ⊛ ‵ (RawPtr.own_val p (u ∷ []))) ⊛ some (λ (ws : Lasts D y.0.0 y.0.3). ‵ (lasts D y.0.0 y.0.3 ws) ⊛ ‵ (box_owns chunk R p x.value))))) (id⊢ 𝓤 _) $
    await ! tt $ pick ! (λ p. split ! $ split ! $ use1 𝓛 (raw (Mine 𝓛 κ q)) (got_back 𝓛 κ q) $ move ! (1 ∷ []) $ feq_l ! (λ is. move ! (1 ∷ []) $ pick ! (λ ws. split ! $ drop ! $
    -- [the box; the tokens; the locals]
    lands_as ! (ap only is) refl (ptr_fits p) $ sets ! (agg ! (and_then ! (get ! refl) (no_more !))) refl (word_fits p) $ returns ! (look_at ! 0 refl) $ free_all ! refl $
    slot_made R ! p (Some x.value) $ nothing ! $ nothing ! $ fjoin ! $
    -- [nothing; the slot; the tokens]
    keep ! (2 ∷ 0 ∷ 1 ∷ []) $ suffices ! _ (ends_at 𝓛 E hs c z (word p) (record { at = p; value = Some x.value }) (tt, tt) (tt, tt)) $ says ! refl $ done !))))))
