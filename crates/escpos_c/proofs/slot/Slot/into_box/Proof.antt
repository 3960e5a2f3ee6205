-- `into_box` compares the pointer with null. At null the slot has no value. At a block it owns what `Box::from_raw` wants.
use Rattle.escpos_c.proofs.Steps.{◌≡◌, List, [], ◌∷◌, ◌∙◌, refl, sym, ap, lit<, full_share, ftrue, SProp, id⊢, a_type, inst_fn, Val, vnil, vcons, WpFn, ‵, raw, prop, at_ret, ◌⊛◌, some, later, ◌$◌, ◌∵◌, !, qed, done, move, keep, drop, split, split3, join, fsplit, fjoin, feq_i, pick, await, regoal, suffices, use0, use1, stop, fld, lit, bin, of_opd, no_more, and_then, first, branches, skips, blocks, exec, returns, returns_within, enter, alloc_all, pass_all, free_all, look_at, get, get_in, sets, lands_last, env, agg, sub, whole, live, ◌⊑◌, fact, tables, no, yes, shows, param, layouts, param_laws, Ptr, block_ptr, null_ptr, ptr_val, tests_null, plain, nothing, heard, peeks, calls_at_last, Lasts, lasts, triple_of, framed, Stays, stay_dropped, walk_of, ends_at, says, Some, None, ghosts, dict, passed, Some-of, none_of, and_tt, Goes-blank, after, proved, global_row, global_laws, global_lowers, box_row, box_laws, option_row}
use Rattle.std.specs.contracts.boxed.Box.from_raw as g
use Rattle.std.proofs.boxed.Box.from_raw.Met.{met}
use Rattle.escpos_c.proofs.Destruct++none.drop.Symbol.{glues}
use Rattle.escpos_c.proofs.Heap.{heap, heap_laws, undropped, Mine, Both, lend, got_back, lives}
use Rattle.escpos_c.proofs.Slots.{slot_cases}
use Rattle.escpos_c.proofs.Word.{word, ptr_fits, word_fits}
use Rattle.escpos_c.specs.contracts.slot.Slot as slot
use Rattle.escpos_c.proofs.slot.Slot.TheLaws as slot_laws
use Rattle.escpos_c.specs.contracts.slot.Slot.into_box as f
use Rattle.escpos_c.proofs.slot.Slot.into_box.Statement.{statement}
use Rattle.escpos_c.proofs.slot.Slot.into_box.Code as code

pub into_box_spec : {M : Type 1} → statement M
into_box_spec {M = M} 𝓤 𝓛 𝓜 𝓡 wired T L =
    let R = param 0 T in let LR = param_laws 0 T L in let P = slot.the_row R in let B = box_row R global_row ghosts in let Out = option_row B in
    let inst = layouts (a_type ∷ []) (T, tt) in let fn = inst_fn inst code.function in let 𝓣 = tables 𝓤 𝓛.H 𝓜 𝓡 𝓡.env in
    let E = f.ended T in let c = f.clauses T 𝓛 𝓜.mem 𝓡.returns in let hs : Stays E.signature.params E.kept = (stay_dropped (plain (λ _. P)) no, (stay_dropped (plain (λ _. global_row)) yes, tt)) in
    let G = triple_of 𝓛 (g.signature T heap ghosts dict undropped) (g.spec T heap ghosts dict undropped 𝓛 𝓜.mem 𝓡.returns) in let D = g.ended T heap ghosts dict undropped in
    proved 𝓛 E hs c 𝓜 𝓡 (Goes-blank 𝓛 1 (plain (λ _. P)) no (λ κs s w. tt), (Goes-blank 𝓛 1 (plain (λ _. global_row)) yes (λ κs a w. tt), tt)) (f.Key.name inst) fn (code.unfolded 𝓤 𝓛.H 𝓜 𝓡 wired (T, tt))
    (λ κs. ((λ s. word s.at ∷ []), ((λ a. global_lowers.lowered a ∷ []), tt))) (λ κs. ((slot_laws.lowers R LR).val_is, (global_lowers.val_is, tt))) (λ κs qs bounds args gh are.
    let κ = κs.0 in let q = qs.0 in let s = args.0 in let a = args.1.0 in let h = global_lowers.lowered a in let h_fits = ((global_laws.lawful 𝓛).typed a (h ∷ []) are.1.0).0 in
    let z : (walk_of 𝓛 E hs c).Ghost = ((κs, qs, bounds, args, (word s.at ∷ [], (h ∷ [], tt))), gh) in let Post : Val → SProp 𝓤 = (walk_of 𝓛 E hs c).post z in
    qed 𝓛 ((raw (Mine 𝓛 κ q) ⊛ ‵ (P.own_val s (word s.at ∷ [])) ⊛ ‵ (global_row.own_val a (h ∷ [])) ⊛ ‵ ftrue) ∷ raw ((c κs args).requires gh) ∷ []) ∵
    split3 ! $ move ! (2 ∷ []) $ split ! $ move ! (3 ∷ []) $ fsplit ! $ drop ! $
    slot_cases R ! a s.at s.value
    -- [the allocator; nothing; the token; the fact on the lifetime]
    (λ is_null is_none. regoal ! (λ (p : Ptr). prop (WpFn 𝓤 𝓛.H 𝓣.C 𝓣.Λ fn (word p ∷ h ∷ []) Post)) is_null refl $
    enter ! _ _ _ _ _ $ alloc_all ! (λ l. pass_all ! refl (word_fits null_ptr, (h_fits, tt)) $
    sets ! (of_opd ! (get_in ! (fld ! refl (stop !)) (sub ! 0 refl (whole !)))) refl (ptr_fits null_ptr) $ sets ! (of_opd ! (get ! refl)) refl (ptr_fits null_ptr) $
    sets ! (bin ! (get ! refl) (lit ! tt) tt) refl (tt, tt) $ first ! $ branches ! (get ! refl)
    (λ t. sets ! (agg ! (and_then ! (lit ! tt) (no_more !))) refl (tt, (record { fits = lit< tt }, tt)) $ returns_within ! Post refl (look_at ! 0 refl) $ free_all ! refl $
    use0 𝓛 (‵ (Out.own_val None (live 0 vnil ∷ []))) (none_of 𝓛 B) $
    nothing ! $ nothing ! $ fjoin ! $ nothing ! $ fjoin ! $
    -- [nothing; none; the allocator; nothing; the token; the fact]
    keep ! (4 ∷ 0 ∷ 1 ∷ []) $ suffices ! _ (ends_at 𝓛 E hs c z (live 0 vnil) None (tt, (tt, tt)) (tt, (tt, tt))) $ says ! is_none $ done !)
    (λ t. absurd t)))
    -- [the box; the allocator; nothing; the token; the fact on the lifetime]
    (λ b o x is_block is_some test. let p = block_ptr b o in regoal ! (λ (p : Ptr). prop (WpFn 𝓤 𝓛.H 𝓣.C 𝓣.Λ fn (word p ∷ h ∷ []) Post)) is_block refl $
    let y : G.Ghost = (((κ, ([], tt)), (q, (full_share, tt)), tt, (a, (p, tt)), (h ∷ [], (ptr_val p ∷ [], tt))), x) in
    move ! (4 ∷ []) $ use1 𝓛 (raw (fact 𝓤 (κ ⊑ T.lives)) ⊛ raw (fact 𝓤 ([] ⊑ heap.lives)) ⊛ ‵ ftrue) (lives 𝓛 κ q T.lives) $ split3 ! $
    move ! (1 ∷ 3 ∷ []) $ join ! $ move ! (1 ∷ 0 ∷ []) $ join ! $
    -- [what is asked; nothing; the allocator; nothing; the token]
    feq_i ! (List Val) (ptr_val p ∷ []) (ptr_val p ∷ []) refl $ move ! (0 ∷ 2 ∷ []) $ fjoin ! $ move ! (2 ∷ 0 ∷ []) $ fjoin ! $
    move ! (3 ∷ []) $ use1 𝓛 (raw (Both 𝓛 κ q)) (lend 𝓛 κ q) $ join ! $ join ! $ use1 𝓛 (raw (G.pre y)) (id⊢ 𝓤 _) $
    enter ! _ _ _ _ _ $ alloc_all ! (λ l. let Ev = env fn.locals l in pass_all ! refl (word_fits p, (h_fits, tt)) $
    sets ! (of_opd ! (get_in ! (fld ! refl (stop !)) (sub ! 0 refl (whole !)))) refl (ptr_fits p) $ sets ! (of_opd ! (get ! refl)) refl (ptr_fits p) $
    sets ! (bin ! (get ! refl) (lit ! tt) (tests_null p test)) refl (tt, tt) $ first ! $ branches ! (get ! refl)
    (λ t. absurd t)
    (λ t. skips ! $ exec ! 𝓣.C 𝓣.Λ Ev (after 4 fn.body) (at_ret Ev Post) $
    first ! $ blocks ! $ sets ! (of_opd ! (get ! refl)) refl h_fits $ sets ! (of_opd ! (get ! refl)) refl (ptr_fits p) $
    calls_at_last ! (framed 𝓤 𝓛.H 𝓜 𝓣) G (met 𝓤 𝓛 𝓜 𝓡 (code.calls-std_alloc::boxed::Box::from_raw 𝓡.env wired) T heap L heap_laws ghosts dict undropped
    (passed 𝓡.env (code.calls-std_heap::GlobalAllocator::allocate 𝓡.env wired) (code.calls-std_heap::GlobalAllocator::deallocate 𝓡.env wired)
    (code.calls-std_heap::GlobalAllocator::grow 𝓡.env wired) (code.calls-std_heap::GlobalAllocator::shrink 𝓡.env wired) M 𝓤 𝓛 𝓜 𝓡)
    (glues 𝓡.env (code.calls-escpos_c::Destruct++none::drop 𝓡.env wired) heap heap_laws M 𝓤 𝓛 𝓜 𝓡)) y (and_then ! (get ! refl) (and_then ! (get ! refl) (no_more !))) (λ u.
    use1 𝓛 (later (some (λ (r : B.Denot). (raw (Both 𝓛 κ q) ⊛ ‵ (B.own_val r (u ∷ [])))
    ⊛ some (λ (ws : Lasts D y.0.0 y.0.3). ‵ (lasts D y.0.0 y.0.3 ws) ⊛ (raw (fact 𝓤 (r.value ≡ x)) ⊛ raw (fact 𝓤 (r.alloc ≡ a))))))) (id⊢ 𝓤 _) $
    await ! tt $ pick ! (λ r. split ! $ split ! $ use1 𝓛 (raw (Mine 𝓛 κ q)) (got_back 𝓛 κ q) $ move ! (2 ∷ []) $ pick ! (λ ws. split3 ! $ drop ! $ heard ! _ (λ is_x. drop ! $ move ! (1 ∷ []) $
    -- [the box; the token; the locals]
    peeks ! B _ (shows 𝓛 B) r (u ∷ []) (λ is. let good = (((box_laws R global_row ghosts LR global_laws).lawful 𝓛).typed r (u ∷ []) is).0 in let v = live 1 (vcons u vnil) in
    lands_last ! refl good $ exec ! 𝓣.C 𝓣.Λ Ev (after 5 fn.body) (at_ret Ev Post) $
    sets ! (of_opd ! (get ! refl)) refl good $ sets ! (agg ! (and_then ! (lit ! tt) (and_then ! (get ! refl) (no_more !)))) refl (and_tt _ good.0, (record { fits = lit< tt }, (good.1, tt))) $
    returns ! (look_at ! 0 refl) $ free_all ! refl $
    use1 𝓛 (‵ (Out.own_val (Some r) (v ∷ []))) (Some-of 𝓛 B r u) $
    nothing ! $ nothing ! $ fjoin ! $ nothing ! $ fjoin ! $
    -- [nothing; the box; the token]
    keep ! (2 ∷ 0 ∷ 1 ∷ []) $ suffices ! _ (ends_at 𝓛 E hs c z v (Some r) (tt, (tt, tt)) (tt, (tt, tt))) $ says ! (is_some ∙ ap Some (sym is_x)) $ done !)))))))))
