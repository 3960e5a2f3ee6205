-- The bytes of the first pieces of a list.
use Rattle.std.proofs.Common.{◌≡◌, ℕ, ◌+◌, ◌<◌, ◌≤◌, List, [], ◌∷◌, ◌++◌, length, take, drop, sym, ◌∙◌, ap, add-one, get_or, append-nil}
use Rattle.std.proofs.lemmas.Grind.{flat_map-append}
use Rattle.std.proofs.lemmas.List.{take-append-drop, take_all}
use Rattle.std.proofs.Math.Seq.{take-suc}
use Rattle.std.specs.List.{flat_map}

pub one_more : {X : Type 0} (bytes : X → List ℕ) (pieces : List X) (i : ℕ) (x : X) → i < length pieces → x ≡ get_or pieces i x
    → flat_map bytes (take i pieces) ++ bytes x ≡ flat_map bytes (take (i + 1) pieces)
one_more bytes pieces i x h e =
    ap (λ v. flat_map bytes (take i pieces) ++ v) (sym (append-nil (bytes x))) ∙ sym (flat_map-append bytes (take i pieces) (x ∷ []))
    ∙ ap (flat_map bytes) (ap (λ v. take i pieces ++ v ∷ []) e ∙ sym (take-suc pieces i x h) ∙ ap (λ n. take n pieces) (sym (add-one i)))

pub all_pieces : {X : Type 0} (bytes : X → List ℕ) (pieces : List X) (i : ℕ) → length pieces ≤ i → flat_map bytes (take i pieces) ≡ flat_map bytes pieces
all_pieces bytes pieces i h = ap (flat_map bytes) (take_all i pieces h)

pub front_and_rest : {X : Type 0} (bytes : X → List ℕ) (pieces : List X) (i : ℕ) → flat_map bytes (take i pieces) ++ flat_map bytes (drop i pieces) ≡ flat_map bytes pieces
front_and_rest bytes pieces i = sym (flat_map-append bytes (take i pieces) (drop i pieces)) ∙ ap (flat_map bytes) (take-append-drop i pieces)
