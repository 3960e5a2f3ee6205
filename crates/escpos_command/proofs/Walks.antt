-- A tree whose leaves spell their commands, and in which every live part leads to one. From such a tree, and from each
-- command leading to its leaf, all laws of the grammar follow at once for every kind.
use Rattle.std.proofs.Common.{◌≡◌, ℕ, List, [], ◌∷◌, ◌++◌, refl, sym, subst, append_assoc, append-nil}
use Rattle.escpos_command.specs.declared.command.Command.{Command}
use Rattle.escpos_command.specs.CommandTable.{Spells}
use Rattle.escpos_command.specs.Tree.{Tree, dead, leaf, node, walk}

-- The tree leads to some command.
abbrev pub IsLive : Tree → Type 0
IsLive dead = ⊥
IsLive (leaf c) = Unit {0}
IsLive (node next) = Unit {0}

-- At the bytes p: each leaf below has the spelling of its command, and each node some byte that leads on.
abbrev pub Good : List ℕ → Tree → Type 0
Good p dead = Unit {0}
Good p (leaf c) = Spells c p
Good p (node next) = ((b : ℕ) × IsLive (next b)) × ((b : ℕ) → Good (p ++ b ∷ []) (next b))

pub walk-nil : (t : Tree) → walk t [] ≡ t
walk-nil dead = refl
walk-nil (leaf c) = refl
walk-nil (node next) = refl

pub walk-append : (t : Tree) (p q : List ℕ) → walk t (p ++ q) ≡ walk (walk t p) q
walk-append dead p q = refl
walk-append (leaf c) [] q = refl
walk-append (leaf c) (b ∷ p) q = refl
walk-append (node next) [] q = refl
walk-append (node next) (b ∷ p) q = walk-append (next b) p q

-- What a good tree leads to is good.
pub good_walk : (p : List ℕ) (t : Tree) (q : List ℕ) → Good p t → Good (p ++ q) (walk t q)
good_walk p dead q g = tt
good_walk p (leaf c) [] g = subst (λ xs. Spells c xs) (sym (append-nil p)) g
good_walk p (leaf c) (b ∷ q) g = tt
good_walk p (node next) [] g = subst (λ xs. Good xs (node next)) (sym (append-nil p)) g
good_walk p (node next) (b ∷ q) g =
    subst (λ xs. Good xs (walk (next b) q)) (append_assoc p (b ∷ []) q) (good_walk (p ++ b ∷ []) (next b) q (g.1 b))

-- The bytes that lead to a live good tree are a prefix of some spelling.
pub good_live : (p : List ℕ) (t : Tree) → Good p t → IsLive t → (c : Command) × (more : List ℕ) × Spells c (p ++ more)
good_live p dead g l = absurd l
good_live p (leaf c) g l = (c, [], subst (λ xs. Spells c xs) (sym (append-nil p)) g)
good_live p (node next) g l =
    let found = good_live (p ++ g.0.0 ∷ []) (next g.0.0) (g.1 g.0.0) g.0.1 in
    (found.0, g.0.0 ∷ found.1, subst (λ xs. Spells found.0 xs) (append_assoc p (g.0.0 ∷ []) found.1) found.2)
