-- One more dot of a row, and one more row, of error diffusion.
use Rattle.std.proofs.Common.{◌≡◌, ℕ, suc, ◌+◌, ◌-◌, ◌<◌, ◌≤◌, Bool, List, [], ◌∷◌, ◌++◌, length, map, take, drop, get_or, sym, ap, ◌∙◌, append_assoc, append-nil, arith}
use Rattle.std.proofs.lemmas.List.{at_drop_more, at_drop_all, get_or-drop, drop-drop}
use Rattle.escpos_image.specs.declared.diffusion.TheConstants.{NO_ERROR}
use Rattle.escpos_image.specs.Diffusion.{wanted, is_black, error, then_error, row_wants, whole_row, diffused_rows}

-- What the dot in column i should show.
abbrev pub want_at : ℕ → ℕ → List ℕ → List ℕ → ℕ → ℕ
want_at left above_left errors grays i =
    wanted (get_or grays i 0) left above_left (get_or errors i NO_ERROR) (get_or errors (i + 1) NO_ERROR)

one_want : (left above_left : ℕ) (errors grays : List ℕ) (i : ℕ) → i < length grays → row_wants left above_left (drop i errors) (drop i grays) ≡ then_error (want_at left above_left errors grays i) (λ here. row_wants here (get_or errors i NO_ERROR) (drop (i + 1) errors) (drop (i + 1) grays))
unfolding row_wants
one_want left above_left errors grays i inside =
    let here : get_or (drop i errors) 0 NO_ERROR ≡ get_or errors i NO_ERROR = get_or-drop i errors 0 NO_ERROR ∙ ap (λ k. get_or errors k NO_ERROR) (omega arith) in
    let next : get_or (drop i errors) 1 NO_ERROR ≡ get_or errors (i + 1) NO_ERROR = get_or-drop i errors 1 NO_ERROR in
    let rest : drop 1 (drop i errors) ≡ drop (i + 1) errors = drop-drop 1 i errors in
    at_drop_more (λ gs. row_wants left above_left (drop i errors) gs) grays i 0 inside
    ∙ ap (λ a. then_error (wanted (get_or grays i 0) left above_left a (get_or (drop i errors) 1 NO_ERROR)) (λ left. row_wants left a (drop 1 (drop i errors)) (drop (i + 1) grays))) here
    ∙ ap (λ b. then_error (wanted (get_or grays i 0) left above_left (get_or errors i NO_ERROR) b) (λ left. row_wants left (get_or errors i NO_ERROR) (drop 1 (drop i errors)) (drop (i + 1) grays))) next
    ∙ ap (λ es. then_error (want_at left above_left errors grays i) (λ left. row_wants left (get_or errors i NO_ERROR) es (drop (i + 1) grays))) rest

-- One more dot, and what is made of the dots so far.
pub more_wants : {X : Type 0} (f : ℕ → X) (done : List X) (left above_left : ℕ) (errors grays : List ℕ) (i : ℕ) → i < length grays → done ++ map f (row_wants left above_left (drop i errors) (drop i grays)) ≡ (done ++ f (want_at left above_left errors grays i) ∷ []) ++ map f (row_wants (error (want_at left above_left errors grays i)) (get_or errors i NO_ERROR) (drop (i + 1) errors) (drop (i + 1) grays))
more_wants f done left above_left errors grays i inside =
    let want = want_at left above_left errors grays i in
    ap (λ ws. done ++ map f ws) (one_want left above_left errors grays i inside)
    ∙ sym (append_assoc done (f want ∷ []) (map f (row_wants (error want) (get_or errors i NO_ERROR) (drop (i + 1) errors) (drop (i + 1) grays))))

-- No dot is left.
pub no_wants : {X : Type 0} (f : ℕ → X) (done : List X) (left above_left : ℕ) (above grays : List ℕ) (i : ℕ) → length grays ≤ i → done ++ map f (row_wants left above_left above (drop i grays)) ≡ done
unfolding row_wants
no_wants f done left above_left above grays i all =
    at_drop_all (λ gs. done ++ map f (row_wants left above_left above gs)) grays i all ∙ append-nil done

-- One more row.
pub more_row : (done : List Bool) (width : ℕ) (above : List ℕ) (rows : ℕ) (grays : List ℕ) → 0 < rows → done ++ diffused_rows width above rows grays ≡ (done ++ map is_black (whole_row above (take width grays))) ++ diffused_rows width (map error (whole_row above (take width grays))) (rows - 1) (drop width grays)
unfolding diffused_rows
more_row done width above rows grays some =
    let e : rows ≡ suc (rows - 1) = omega arith in
    ap (λ n. done ++ diffused_rows width above n grays) e
    ∙ sym (append_assoc done (map is_black (whole_row above (take width grays))) (diffused_rows width (map error (whole_row above (take width grays))) (rows - 1) (drop width grays)))

-- No row is left.
pub no_row : (done : List Bool) (width : ℕ) (above : List ℕ) (rows : ℕ) (grays : List ℕ) → rows ≡ 0 → done ++ diffused_rows width above rows grays ≡ done
unfolding diffused_rows
no_row done width above rows grays none = ap (λ n. done ++ diffused_rows width above n grays) none ∙ append-nil done
