-- Prefixes planted in a tree: where bytes lead then, and that the tree is good where its parts are. Each fact is proved once, for
-- any prefixes of any length and any trees after them.
use Rattle.std.proofs.Common.{◌≡◌, ℕ, List, [], ◌∷◌, ◌++◌, refl, sym, ◌∙◌, ap, subst, append_assoc, append-nil, Bool, true, false, cond}
use Rattle.std.specs.Prelude.{◌==◌, ◌||◌, not}
use Rattle.std.specs.List.{list_all, AllByRecursion}
use Rattle.escpos_command.specs.Prefixes.{Forms, apart, same, part_from, all_apart, has_form, tree_after}
use Rattle.escpos_command.specs.Tree.{Tree, dead, leaf, node, walk, below, planted, all_planted}
use Rattle.escpos_command.proofs.Walks.{IsLive, Good}
use Rattle.escpos_command.proofs.Combinators.{and_left, and_right, same_number, number_itself, good_choice, live_choice}

-- ## Tests

test_turned : (b c : ℕ) → (c == b) ≡ true → (b == c) ≡ true
test_turned b c h = subst (λ x. (b == x) ≡ true) (sym (same_number c b h)) (number_itself b)

pub or_else : (a b : Bool) → a ≡ true → (not a || b) ≡ true → b ≡ true
or_else true b e h = h
or_else false b e h = absurd cc

pub or_right : (a b : Bool) → a ≡ false → (a || b) ≡ true → b ≡ true
or_right true b e h = absurd cc
or_right false b e h = h

same_lists : (p q : List ℕ) → same p q ≡ true → p ≡ q
same_lists [] [] h = refl
same_lists [] (c ∷ q) h = absurd cc
same_lists (b ∷ p) [] h = absurd cc
same_lists (b ∷ p) (c ∷ q) h =
    ap (λ x. x ∷ p) (same_number b c (and_left (b == c) (same p q) h)) ∙ ap (λ v. c ∷ v) (same_lists p q (and_right (b == c) (same p q) h))

-- ## One prefix

pub walk-below : (t : Tree) (b : ℕ) (w : List ℕ) → walk t (b ∷ w) ≡ walk (below t b) w
walk-below dead b w = refl
walk-below (leaf c) b w = refl
walk-below (node next) b w = refl

pub planted_there : (p w : List ℕ) (t others : Tree) → walk (planted p t others) (p ++ w) ≡ walk t w
unfolding planted
planted_there [] w t others = refl
planted_there (b ∷ p) w t others =
    ap (λ v. walk (cond v (planted p t (below others b)) (below others b)) (p ++ w)) (number_itself b) ∙ planted_there p w t (below others b)

elsewhere_by : (v : Bool) (b c : ℕ) (p q w : List ℕ) (t others : Tree) → (c == b) ≡ v → (not (b == c) || apart p q) ≡ true
    → (apart p q ≡ true → walk (planted p t (below others c)) (q ++ w) ≡ walk (below others c) (q ++ w))
    → walk (planted (b ∷ p) t others) (c ∷ (q ++ w)) ≡ walk others (c ∷ (q ++ w))
unfolding planted
elsewhere_by true b c p q w t others e h further =
    ap (λ v. walk (cond v (planted p t (below others c)) (below others c)) (q ++ w)) e
    ∙ further (or_else (b == c) (apart p q) (test_turned b c e) h) ∙ sym (walk-below others c (q ++ w))
elsewhere_by false b c p q w t others e h further =
    ap (λ v. walk (cond v (planted p t (below others c)) (below others c)) (q ++ w)) e ∙ sym (walk-below others c (q ++ w))

pub planted_elsewhere : (p q w : List ℕ) (t others : Tree) → apart p q ≡ true → walk (planted p t others) (q ++ w) ≡ walk others (q ++ w)
planted_elsewhere [] q w t others h = absurd cc
planted_elsewhere (b ∷ p) [] w t others h = absurd cc
planted_elsewhere (b ∷ p) (c ∷ q) w t others h =
    elsewhere_by (c == b) b c p q w t others refl h (λ k. planted_elsewhere p q w t (below others c) k)

-- ## Many prefixes

pub all_elsewhere : (forms : Forms) (q w : List ℕ) (others : Tree) → part_from q forms ≡ true → walk (all_planted forms others) (q ++ w) ≡ walk others (q ++ w)
unfolding all_planted
all_elsewhere [] q w others h = refl
all_elsewhere (form ∷ forms) q w others h =
    planted_elsewhere form.0 q w form.1 (all_planted forms others) (and_left (apart form.0 q) (part_from q forms) h)
    ∙ all_elsewhere forms q w others (and_right (apart form.0 q) (part_from q forms) h)

-- A prefix that parts from all of the forms parts from each.
apart_by : (v : Bool) (p q : List ℕ) (form : List ℕ × Tree) → same form.0 q ≡ v → apart p form.0 ≡ true → (same form.0 q ≡ false → apart p q ≡ true) → apart p q ≡ true
apart_by true p q form e here further = subst (λ x. apart p x ≡ true) (same_lists form.0 q e) here
apart_by false p q form e here further = further e

apart_form : (p q : List ℕ) (forms : Forms) → list_all (λ other. apart p other.0) forms ≡ true → has_form q forms ≡ true → apart p q ≡ true
apart_form p q [] h k = absurd cc
apart_form p q (form ∷ forms) h k =
    apart_by (same form.0 q) p q form refl (and_left (apart p form.0) (list_all (λ other. apart p other.0) forms) h)
    (λ e. apart_form p q forms (and_right (apart p form.0) (list_all (λ other. apart p other.0) forms) h) (or_right (same form.0 q) (has_form q forms) e k))

there_by : (v : Bool) (form : List ℕ × Tree) (forms : Forms) (q w : List ℕ) (others : Tree) → same form.0 q ≡ v → list_all (λ other. apart form.0 other.0) forms ≡ true
    → (same form.0 q || has_form q forms) ≡ true → (has_form q forms ≡ true → walk (all_planted forms others) (q ++ w) ≡ walk (tree_after q forms) w)
    → walk (planted form.0 form.1 (all_planted forms others)) (q ++ w) ≡ walk (cond (same form.0 q) form.1 (tree_after q forms)) w
there_by true form forms q w others e h k further =
    ap (λ v. walk (planted form.0 form.1 (all_planted forms others)) (v ++ w)) (sym (same_lists form.0 q e))
    ∙ planted_there form.0 w form.1 (all_planted forms others) ∙ ap (λ v. walk (cond v form.1 (tree_after q forms)) w) (sym e)
there_by false form forms q w others e h k further =
    let later = or_right (same form.0 q) (has_form q forms) e k in
    planted_elsewhere form.0 q w form.1 (all_planted forms others) (apart_form form.0 q forms h later)
    ∙ further later ∙ ap (λ v. walk (cond v form.1 (tree_after q forms)) w) (sym e)

-- The prefix of a form leads to its tree.
pub all_there : (forms : Forms) (q w : List ℕ) (others : Tree) → all_apart forms ≡ true → has_form q forms ≡ true
    → walk (all_planted forms others) (q ++ w) ≡ walk (tree_after q forms) w
unfolding all_planted
all_there [] q w others h k = absurd cc
all_there (form ∷ forms) q w others h k =
    there_by (same form.0 q) form forms q w others refl (and_left (list_all (λ other. apart form.0 other.0) forms) (all_apart forms) h) k
    (λ later. all_there forms q w others (and_right (list_all (λ other. apart form.0 other.0) forms) (all_apart forms) h) later)

-- ## They are good

good_below : (p : List ℕ) (t : Tree) (b : ℕ) → Good p t → Good (p ++ b ∷ []) (below t b)
good_below p dead b g = tt
good_below p (leaf c) b g = tt
good_below p (node next) b g = g.1 b

live_planted : (p : List ℕ) (t others : Tree) → IsLive t → IsLive (planted p t others)
unfolding planted
live_planted [] t others l = l
live_planted (b ∷ p) t others l = tt

pub good_planted : (p q : List ℕ) (t others : Tree) → IsLive t → Good (q ++ p) t → Good q others → Good q (planted p t others)
unfolding planted
good_planted [] q t others l g k = subst (λ v. Good v t) (append-nil q) g
good_planted (b ∷ p) q t others l g k = (
  (b, live_choice (planted p t (below others b)) (below others b) (b == b) (number_itself b) (live_planted p t (below others b) l)),
  λ x. good_choice (q ++ x ∷ []) (planted p t (below others x)) (below others x) (x == b)
      (λ e. good_planted p (q ++ x ∷ []) t (below others x) l
      (subst (λ v. Good v t) (ap (λ y. q ++ y ∷ p) (sym (same_number x b e)) ∙ sym (append_assoc q (x ∷ []) p)) g)
      (good_below q others x k))
      (λ _. good_below q others x k),
)

pub all_good : (forms : Forms) (others : Tree) → AllByRecursion (λ form. IsLive form.1 × Good form.0 form.1) forms → Good [] others → Good [] (all_planted forms others)
unfolding all_planted
all_good [] others h k = k
all_good (form ∷ forms) others h k = good_planted form.0 [] form.1 (all_planted forms others) h.0.0 h.0.1 (all_good forms others h.1 k)
