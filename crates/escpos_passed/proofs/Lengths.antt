-- A length that bytes tell stays the same whatever follows them, and is told by as many of them.
use Rattle.std.proofs.Common.{zero, suc, ◌≡◌, ◌≤◌, ◌+◌, ◌-◌, ℕ, Bool, true, false, List, [], ◌∷◌, ◌++◌, length, take, drop, refl, sym, ◌∙◌, ap, arith, length-append, length-take, Option, None, Some}
use Rattle.std.specs.Prelude.{◌==◌, nat_lt, if◌then◌else◌}
use Rattle.std.specs.Option.{option_map, option_and_then}
use Rattle.std.proofs.lemmas.Bool.{le-ltb, ltb-false}
use Rattle.std.proofs.lemmas.List.{take-append-le, take-take, drop-take}
use Rattle.escpos_passed.specs.declared.table.Counted.{Counted}
use Rattle.escpos_passed.specs.declared.table.Form.{Form}
use Rattle.escpos_passed.specs.declared.table.Form.TheVariants as form
use Rattle.escpos_passed.specs.Lengths.{data_length, told_length, counted_length, long_in, length_until, repeated_length, one_picture, one_character, pictures_length, characters_length, whole_length}

abbrev pub Stable : (List ℕ → Option ℕ) → Type 0
Stable told = (bs more : List ℕ) (n : ℕ) → told bs ≡ Some n → told (bs ++ more) ≡ Some n

abbrev pub Enough : (List ℕ → Option ℕ) → Type 0
Enough told = (bs : List ℕ) (n j : ℕ) → told bs ≡ Some n → n ≤ j → told (take j bs) ≡ Some n

some_of : (x n : ℕ) → Some x ≡ Some n → x ≡ n
some_of x n e = cc

if_some : (t : Bool) (x n : ℕ) → (if t then None else Some x) ≡ Some n → (t ≡ false) × (x ≡ n)
if_some true x n e = absurd cc
if_some false x n e = (refl, some_of x n e)

map_some : (f : ℕ → ℕ) (o : Option ℕ) (n : ℕ) → option_map f o ≡ Some n → (m : ℕ) × (o ≡ Some m) × (f m ≡ n)
map_some f None n e = absurd cc
map_some f (Some m) n e = (m, refl, some_of (f m) n e)

then_some : (f : ℕ → Option ℕ) (o : Option ℕ) (n : ℕ) → option_and_then f o ≡ Some n → (d : ℕ) × (o ≡ Some d) × (f d ≡ Some n)
then_some f None n e = absurd cc
then_some f (Some d) n e = (d, refl, e)

either : (t : Bool) (x y u v : Option ℕ) (m : ℕ) → (x ≡ Some m → u ≡ Some m) → (y ≡ Some m → v ≡ Some m) → (if t then x else y) ≡ Some m → (if t then u else v) ≡ Some m
either true x y u v m f g e = f e
either false x y u v m f g e = g e

-- ## Some bytes that tell a length

told_at : (before : ℕ) (tell : List ℕ → ℕ) (bs : List ℕ) → before ≤ length bs → told_length before tell bs ≡ Some (before + tell (take before bs))
told_at before tell bs h = ap (λ (t : Bool). if t then None else Some (before + tell (take before bs))) (le-ltb (length bs) before h)

told_from : (before : ℕ) (tell : List ℕ → ℕ) (bs : List ℕ) (n : ℕ) → told_length before tell bs ≡ Some n → (before ≤ length bs) × (before + tell (take before bs) ≡ n)
told_from before tell bs n e =
    let h = if_some (nat_lt (length bs) before) (before + tell (take before bs)) n e in
    (ltb-false (length bs) before h.0, h.1)

stable_told : (before : ℕ) (tell : List ℕ → ℕ) → Stable (told_length before tell)
stable_told before tell bs more n e =
    let h = told_from before tell bs n e in
    told_at before tell (bs ++ more) (let long = length-append bs more in let some = h.0 in omega arith)
    ∙ ap (λ v. Some (before + tell v)) (take-append-le before bs more h.0) ∙ ap Some h.1

enough_told : (before : ℕ) (tell : List ℕ → ℕ) → Enough (told_length before tell)
enough_told before tell bs n j e few =
    let h = told_from before tell bs n e in
    let fits : before ≤ j = let some = h.1 in omega arith in
    told_at before tell (take j bs) (let short = length-take j bs in let some = h.0 in omega arith)
    ∙ ap (λ v. Some (before + tell v)) (take-take before j bs fits) ∙ ap Some h.1

pub stable_counted : (c : Counted) → Stable (counted_length c)
stable_counted c = stable_told c.before (data_length c)

pub enough_counted : (c : Counted) → Enough (counted_length c)
enough_counted c = enough_told c.before (data_length c)

-- ## Up to a byte

stable_until : (end times : ℕ) → Stable (length_until end times)
stable_until end zero bs more n e = e
stable_until end (suc k) [] more n e = absurd cc
stable_until end (suc k) (b ∷ bs) more n e =
    let m = map_some suc (if b == end then length_until end k bs else length_until end (suc k) bs) n e in
    ap (option_map suc) (either (b == end) _ _ (length_until end k (bs ++ more)) (length_until end (suc k) (bs ++ more)) m.0 (stable_until end k bs more m.0) (stable_until end (suc k) bs more m.0) m.1)
    ∙ ap Some m.2

enough_until : (end times : ℕ) → Enough (length_until end times)
enough_until end zero bs n j e few = e
enough_until end (suc k) [] n j e few = absurd cc
enough_until end (suc k) (b ∷ bs) n zero e few =
    let m = map_some suc (if b == end then length_until end k bs else length_until end (suc k) bs) n e in
    absurd (let one = m.2 in omega arith)
enough_until end (suc k) (b ∷ bs) n (suc j) e few =
    let m = map_some suc (if b == end then length_until end k bs else length_until end (suc k) bs) n e in
    let less : m.0 ≤ j = let one = m.2 in omega arith in
    ap (option_map suc) (either (b == end) _ _ (length_until end k (take j bs)) (length_until end (suc k) (take j bs)) m.0 (λ h. enough_until end k bs m.0 j h less) (λ h. enough_until end (suc k) bs m.0 j h less) m.1)
    ∙ ap Some m.2

-- ## Parts of one kind

drop_front : (n : ℕ) (bs more : List ℕ) → (others : List ℕ) × (drop n (bs ++ more) ≡ drop n bs ++ others)
drop_front zero bs more = (more, refl)
drop_front (suc n) [] more = (drop (suc n) more, refl)
drop_front (suc n) (b ∷ bs) more = drop_front n bs more

stable_repeated : (c : Counted) (times : ℕ) → Stable (repeated_length c times)
stable_repeated c zero bs more n e = e
stable_repeated c (suc k) bs more n e =
    let first = then_some (λ d. option_map (λ m. d + m) (repeated_length c k (drop d bs))) (counted_length c bs) n e in
    let d = first.0 in
    let others = map_some (λ m. d + m) (repeated_length c k (drop d bs)) n first.2 in
    let rest = drop_front d bs more in
    ap (option_and_then (λ d. option_map (λ m. d + m) (repeated_length c k (drop d (bs ++ more))))) (stable_counted c bs more d first.1)
    ∙ ap (λ v. option_map (λ m. d + m) (repeated_length c k v)) rest.1
    ∙ ap (option_map (λ m. d + m)) (stable_repeated c k (drop d bs) rest.0 others.0 others.1)
    ∙ ap Some others.2

enough_repeated : (c : Counted) (times : ℕ) → Enough (repeated_length c times)
enough_repeated c zero bs n j e few = e
enough_repeated c (suc k) bs n j e few =
    let first = then_some (λ d. option_map (λ m. d + m) (repeated_length c k (drop d bs))) (counted_length c bs) n e in
    let d = first.0 in
    let others = map_some (λ m. d + m) (repeated_length c k (drop d bs)) n first.2 in
    let whole : d + (j - d) ≡ j = let sum = others.2 in omega arith in
    let left : others.0 ≤ j - d = let sum = others.2 in omega arith in
    let rest : drop d (take j bs) ≡ take (j - d) (drop d bs) = ap (λ i. drop d (take i bs)) (sym whole) ∙ drop-take d (j - d) bs in
    ap (option_and_then (λ d. option_map (λ m. d + m) (repeated_length c k (drop d (take j bs))))) (enough_counted c bs d j first.1 (let sum = others.2 in omega arith))
    ∙ ap (λ v. option_map (λ m. d + m) (repeated_length c k v)) rest
    ∙ ap (option_map (λ m. d + m)) (enough_repeated c k (drop d bs) others.0 (j - d) others.1 left)
    ∙ ap Some others.2

stable_pictures : Stable pictures_length
stable_pictures [] more n e = absurd cc
stable_pictures (count ∷ bs) more n e =
    let m = map_some (λ m. 1 + m) (repeated_length one_picture count bs) n e in
    ap (option_map (λ m. 1 + m)) (stable_repeated one_picture count bs more m.0 m.1) ∙ ap Some m.2

enough_pictures : Enough pictures_length
enough_pictures [] n j e few = absurd cc
enough_pictures (count ∷ bs) n zero e few =
    let m = map_some (λ m. 1 + m) (repeated_length one_picture count bs) n e in absurd (let one = m.2 in omega arith)
enough_pictures (count ∷ bs) n (suc j) e few =
    let m = map_some (λ m. 1 + m) (repeated_length one_picture count bs) n e in
    ap (option_map (λ m. 1 + m)) (enough_repeated one_picture count bs m.0 j m.1 (let one = m.2 in omega arith)) ∙ ap Some m.2

stable_characters : Stable characters_length
stable_characters [] more n e = absurd cc
stable_characters (y ∷ []) more n e = absurd cc
stable_characters (y ∷ first ∷ []) more n e = absurd cc
stable_characters (y ∷ first ∷ last ∷ bs) more n e =
    let m = map_some (λ m. 3 + m) (repeated_length (one_character y) (last + 1 - first) bs) n e in
    ap (option_map (λ m. 3 + m)) (stable_repeated (one_character y) (last + 1 - first) bs more m.0 m.1) ∙ ap Some m.2

enough_characters : Enough characters_length
enough_characters [] n j e few = absurd cc
enough_characters (y ∷ []) n j e few = absurd cc
enough_characters (y ∷ first ∷ []) n j e few = absurd cc
enough_characters (y ∷ first ∷ last ∷ bs) n j e few =
    let m = map_some (λ m. 3 + m) (repeated_length (one_character y) (last + 1 - first) bs) n e in
    let sum = m.2 in
    let whole : suc (suc (suc (j - 3))) ≡ j = omega arith in
    ap (λ i. characters_length (take i (y ∷ first ∷ last ∷ bs))) (sym whole)
    ∙ ap (option_map (λ m. 3 + m)) (enough_repeated (one_character y) (last + 1 - first) bs m.0 (j - 3) m.1 (omega arith)) ∙ ap Some m.2

-- ## Each form

pub stable : (f : Form) → Stable (whole_length f)
stable (form.Fixed count) bs more n e = e
stable (form.Until end times) bs more n e = stable_until end times bs more n e
stable (form.Counted c) bs more n e = stable_counted c bs more n e
stable (form.Long before at less) bs more n e = stable_told before (λ told. long_in at told - less) bs more n e
stable form.Pictures bs more n e = stable_pictures bs more n e
stable form.Characters bs more n e = stable_characters bs more n e

pub enough : (f : Form) → Enough (whole_length f)
enough (form.Fixed count) bs n j e few = e
enough (form.Until end times) bs n j e few = enough_until end times bs n j e few
enough (form.Counted c) bs n j e few = enough_counted c bs n j e few
enough (form.Long before at less) bs n j e few = enough_told before (λ told. long_in at told - less) bs n j e few
enough form.Pictures bs n j e few = enough_pictures bs n j e few
enough form.Characters bs n j e few = enough_characters bs n j e few
