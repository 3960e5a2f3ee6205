-- Where bytes lead in the tree of the command table: to no command, and to none on the way. So no command begins them, and they begin
-- none.
use Rattle.std.proofs.Common.{◌≡◌, ℕ, Bool, true, false, List, [], ◌∷◌, ◌++◌, refl, sym, subst}
use Rattle.std.specs.Prelude.{if◌then◌else◌}
use Rattle.escpos_command.specs.declared.command.Command.{Command}
use Rattle.escpos_command.specs.Tree.{Tree, dead, leaf, node, walk}

-- The bytes lead nowhere, and no part of them is a command.
abbrev pub strays : Tree → List ℕ → Bool
strays dead bs = true
strays (leaf c) bs = false
strays (node next) [] = false
strays (node next) (b ∷ bs) = strays (next b) bs

-- No part of the bytes is a command.
abbrev pub is_quiet : Tree → List ℕ → Bool
is_quiet dead bs = true
is_quiet (leaf c) bs = false
is_quiet (node next) [] = true
is_quiet (node next) (b ∷ bs) = is_quiet (next b) bs

head_of : (b c : ℕ) (x y : List ℕ) → b ∷ x ≡ c ∷ y → b ≡ c
head_of b c x y e = cc

tail_of : (b c : ℕ) (x y : List ℕ) → b ∷ x ≡ c ∷ y → x ≡ y
tail_of b c x y e = cc

pub strays_apart : (t : Tree) (p q x y : List ℕ) (c : Command) → strays t p ≡ true → walk t q ≡ leaf c → q ++ x ≡ p ++ y → ⊥
strays_apart dead p q x y c s w e = absurd cc
strays_apart (leaf d) p q x y c s w e = absurd cc
strays_apart (node next) [] q x y c s w e = absurd cc
strays_apart (node next) (b ∷ p) [] x y c s w e = absurd cc
strays_apart (node next) (b ∷ p) (a ∷ q) x y c s w e =
    strays_apart (next b) p q x y c s (subst (λ v. walk (next v) q ≡ leaf c) (head_of a b (q ++ x) (p ++ y) e) w) (tail_of a b (q ++ x) (p ++ y) e)

pub quiet_apart : (t : Tree) (p q x : List ℕ) (c : Command) → is_quiet t p ≡ true → walk t q ≡ leaf c → p ≡ q ++ x → ⊥
quiet_apart dead p q x c s w e = absurd cc
quiet_apart (leaf d) p q x c s w e = absurd cc
quiet_apart (node next) p [] x c s w e = absurd cc
quiet_apart (node next) [] (a ∷ q) x c s w e = absurd cc
quiet_apart (node next) (b ∷ p) (a ∷ q) x c s w e =
    quiet_apart (next b) p q x c s (subst (λ v. walk (next v) q ≡ leaf c) (sym (head_of b a p (q ++ x) e)) w) (tail_of b a p (q ++ x) e)

pub strays_more : (t : Tree) (p r : List ℕ) → strays t p ≡ true → strays t (p ++ r) ≡ true
strays_more dead p r s = refl
strays_more (leaf d) p r s = absurd cc
strays_more (node next) [] r s = absurd cc
strays_more (node next) (b ∷ p) r s = strays_more (next b) p r s

pub strays_quiet : (t : Tree) (p : List ℕ) → strays t p ≡ true → is_quiet t p ≡ true
strays_quiet dead p s = refl
strays_quiet (leaf d) p s = absurd cc
strays_quiet (node next) [] s = absurd cc
strays_quiet (node next) (b ∷ p) s = strays_quiet (next b) p s

pub quiet_start : (t : Tree) (p r : List ℕ) → is_quiet t (p ++ r) ≡ true → is_quiet t p ≡ true
quiet_start dead p r s = refl
quiet_start (leaf d) p r s = absurd cc
quiet_start (node next) [] r s = refl
quiet_start (node next) (b ∷ p) r s = quiet_start (next b) p r s

pub strays_dead : (t : Tree) (p r : List ℕ) → strays t p ≡ true → walk t (p ++ r) ≡ dead
strays_dead dead p r s = refl
strays_dead (leaf d) p r s = absurd cc
strays_dead (node next) [] r s = absurd cc
strays_dead (node next) (b ∷ p) r s = strays_dead (next b) p r s

-- ## After bytes that lead to a node

pub strays_on : (t : Tree) (p r : List ℕ) (next : ℕ → Tree) → walk t p ≡ node next → strays (node next) r ≡ true → strays t (p ++ r) ≡ true
strays_on dead p r next w s = absurd cc
strays_on (leaf d) [] r next w s = absurd cc
strays_on (leaf d) (b ∷ p) r next w s = absurd cc
strays_on (node other) [] r next w s = subst (λ t. strays t r ≡ true) (sym w) s
strays_on (node other) (b ∷ p) r next w s = strays_on (other b) p r next w s

pub quiet_on : (t : Tree) (p r : List ℕ) (next : ℕ → Tree) → walk t p ≡ node next → is_quiet (node next) r ≡ true → is_quiet t (p ++ r) ≡ true
quiet_on dead p r next w s = absurd cc
quiet_on (leaf d) [] r next w s = absurd cc
quiet_on (leaf d) (b ∷ p) r next w s = absurd cc
quiet_on (node other) [] r next w s = subst (λ t. is_quiet t r ≡ true) (sym w) s
quiet_on (node other) (b ∷ p) r next w s = quiet_on (other b) p r next w s

pub strays_if : (test : Bool) (t : Tree) (r : List ℕ) → strays t r ≡ true → strays (if test then t else dead) r ≡ true
strays_if true t r s = s
strays_if false t r s = refl

pub quiet_if : (test : Bool) (t : Tree) (r : List ℕ) → is_quiet t r ≡ true → is_quiet (if test then t else dead) r ≡ true
quiet_if true t r s = s
quiet_if false t r s = refl

pub strays_unless : (test : Bool) (t : Tree) (r : List ℕ) → test ≡ false → strays (if test then t else dead) r ≡ true
strays_unless true t r e = absurd cc
strays_unless false t r e = refl
