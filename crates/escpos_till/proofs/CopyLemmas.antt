-- A receipt with the line of a copy before it is a receipt.
use Rattle.std.proofs.Common.{ℕ, suc, ◌≡◌, ◌⊎◌, inl, inr, Bool, true, false, IsTrue, List, [], ◌∷◌, ◌++◌, map, refl, sym, ◌∙◌, ap, subst, append_assoc, arith}
use Rattle.std.specs.Prelude.{◌==◌, if◌then◌else◌}
use Rattle.std.proofs.lemmas.Bool.Decides.{nat_tests}
use Rattle.std.specs.List.{AllByRecursion, AllPass}
use Rattle.escpos_command.specs.declared.command.Command.{Command}
use Rattle.escpos_command.specs.declared.command.Command.TheVariants.{Char, LineFeed}
use Rattle.escpos_command.specs.SettingTable.{table}
use Rattle.escpos_command.specs.declared.setting.SettingKind.TheVariants as sets
use Rattle.escpos_command.specs.declared.bytes.TheConstants.{DLE}
use Rattle.escpos_command.specs.CommandTable.{spell, set_to}
use Rattle.escpos_command.specs.Text.{ends_later, text, text_after}
use Rattle.escpos_command.proofs.Lines.{StoreTheSame, same_text}
use Rattle.escpos_command.proofs.Settings.{graphics-snoc, stored-snoc}
use Rattle.escpos_receipt.specs.Whole.{MayFollow, Whole, is_forbidden, is_nonempty, needs_empty_line}
use Rattle.escpos_real_time.specs.Scan.{holds}
use Rattle.escpos_real_time.proofs.Holding.{found, finds, skip}
use Rattle.escpos_receipt.proofs.RealTimes.{none_in, said}
use Rattle.escpos_till.specs.Copy.{copy_line, is_copy_character}

-- ## Places in two lists

split_append : {X : Type 0} (front xs before : List X) (x : X) (following : List X) → front ++ xs ≡ before ++ x ∷ following
    → ((more : List X) × (front ≡ before ++ x ∷ more)) ⊎ ((rest : List X) × (before ≡ front ++ rest) × (xs ≡ rest ++ x ∷ following))
split_append [] xs before x following e = inr (before, refl, e)
split_append (y ∷ front) xs [] x following e =
    let same : y ≡ x = cc in
    inl (front, ap (λ w. w ∷ front) same)
split_append (y ∷ front) xs (b ∷ before) x following e =
    let head : y ≡ b = cc in
    let tail : front ++ xs ≡ before ++ x ∷ following = cc in
    elim (split_append front xs before x following tail) [
      | inl within ↦ inl (within.0, cc (head, within.1))
      | inr later ↦ inr (later.0, cc (head, later.1), later.2)
    ]

at_place : {X : Type 0} (P : X → Type 0) (before : List X) (x : X) (more : List X) → AllByRecursion P (before ++ x ∷ more) → P x
at_place P [] x more all = all.0
at_place P (b ∷ before) x more all = at_place P before x more all.1

-- ## The line

-- A receipt may have the command anywhere.
pub record IsFree (c : Command) : Type 0 where
  pub allowed : is_forbidden c ≡ false
  pub anywhere : needs_empty_line c ≡ false

free_chars : (bs : List ℕ) (tail : List Command) → AllByRecursion IsFree tail → AllByRecursion IsFree (map Char bs ++ tail)
free_chars [] tail all = all
free_chars (b ∷ bs) tail all = (record { allowed = refl; anywhere = refl }, free_chars bs tail all)

free_line : (bs : List ℕ) → AllByRecursion IsFree (copy_line bs)
free_line bs =
    let free : (c : Command) → is_forbidden c ≡ false → needs_empty_line c ≡ false → IsFree c = λ c allowed anywhere. record { allowed = allowed; anywhere = anywhere } in (
      free (set_to sets.Align 1) refl refl,
      (
        free (set_to sets.Emphasis 1) refl refl,
        free_chars bs (LineFeed ∷ set_to sets.Emphasis 0 ∷ set_to sets.Align 0 ∷ []) (free LineFeed refl refl, (free (set_to sets.Emphasis 0) refl refl, (free (set_to sets.Align 0) refl refl, tt))),
      ),
    )

nothing_either : (b : Bool) (t : List ℕ) → (if b then [] else []) ++ t ≡ t
nothing_either true t = refl
nothing_either false t = refl

ends_in : (before : List Command) (bs : List ℕ) (rest : List Command) → ends_later before (map Char bs ++ LineFeed ∷ rest) ≡ true
ends_in before [] rest = refl
ends_in before (b ∷ bs) rest = ends_in (before ++ Char b ∷ []) bs rest

-- One more line feed, or character, stores nothing.
after_feed : (before : List Command) → StoreTheSame before [] → StoreTheSame (before ++ LineFeed ∷ []) []
after_feed before e = record { codes = stored-snoc before LineFeed ∙ e.codes; graphics = graphics-snoc before LineFeed ∙ e.graphics }

after_char : (before : List Command) (b : ℕ) → StoreTheSame before [] → StoreTheSame (before ++ Char b ∷ []) []
after_char before b e = record { codes = stored-snoc before (Char b) ∙ e.codes; graphics = graphics-snoc before (Char b) ∙ e.graphics }

-- Characters and their line feed leave nothing for what follows, after commands that have stored nothing.
text_after_chars : (before : List Command) (bs : List ℕ) (rest : List Command) → StoreTheSame before []
    → text_after before (map Char bs ++ LineFeed ∷ rest) ≡ text rest
text_after_chars before [] rest e =
    let longer = before ++ LineFeed ∷ [] in
    nothing_either (ends_later longer rest) (text_after longer rest) ∙ same_text longer [] rest (after_feed before e)
text_after_chars before (b ∷ bs) rest e =
    let longer = before ++ Char b ∷ [] in
    ap (λ ends. (if ends then [] else b ∷ []) ++ text_after longer (map Char bs ++ LineFeed ∷ rest)) (ends_in longer bs rest)
    ∙ text_after_chars longer bs rest (after_char before b e)

text_after_line : (bs : List ℕ) (rest : List Command) → text (copy_line bs ++ rest) ≡ text rest
text_after_line bs rest =
    let tail : List Command = LineFeed ∷ set_to sets.Emphasis 0 ∷ set_to sets.Align 0 ∷ [] in
    let body : List Command = (map Char bs ++ tail) ++ rest in
    let joined : body ≡ map Char bs ++ (LineFeed ∷ set_to sets.Emphasis 0 ∷ set_to sets.Align 0 ∷ rest) = append_assoc (map Char bs) tail rest in
    let begun : List Command = set_to sets.Align 1 ∷ set_to sets.Emphasis 1 ∷ [] in
    let ended : List Command = set_to sets.Emphasis 0 ∷ set_to sets.Align 0 ∷ [] in
    nothing_either (ends_later (set_to sets.Align 1 ∷ []) (set_to sets.Emphasis 1 ∷ body)) (text_after (set_to sets.Align 1 ∷ []) (set_to sets.Emphasis 1 ∷ body))
    ∙ nothing_either (ends_later begun body) (text_after begun body)
    ∙ ap (text_after begun) joined
    ∙ text_after_chars begun bs (set_to sets.Emphasis 0 ∷ set_to sets.Align 0 ∷ rest) (record { codes = refl; graphics = refl })
    ∙ nothing_either (ends_later (set_to sets.Emphasis 0 ∷ []) (set_to sets.Align 0 ∷ rest)) (text_after (set_to sets.Emphasis 0 ∷ []) (set_to sets.Align 0 ∷ rest))
    ∙ nothing_either (ends_later ended rest) (text_after ended rest)
    ∙ same_text ended [] rest (record { codes = refl; graphics = refl })

follows_line : (bs : List ℕ) (rest : List Command) (c : Command) → MayFollow rest c → MayFollow (copy_line bs ++ rest) c
follows_line bs rest c f = record { allowed = f.allowed; at_line_start = λ needs. ap is_nonempty (text_after_line bs rest) ∙ f.at_line_start needs }

free_follows : (before : List Command) (c : Command) → IsFree c → MayFollow before c
free_follows before c f = record { allowed = f.allowed; at_line_start = λ needs. absurd (let no : needs_empty_line c ≡ false = f.anywhere in let yes : needs_empty_line c ≡ true = needs in cc) }

-- The bytes of the line and of what follows hold what these hold: the line has no DLE.
not_dle : (b : ℕ) → IsTrue (is_copy_character b) → (b == DLE) ≡ false
not_dle b is = grind (arith, nat_tests)

chars_hold_none : (bs : List ℕ) (cs : List Command) → AllPass is_copy_character bs
    → holds (spell ((map Char bs ++ LineFeed ∷ set_to sets.Emphasis 0 ∷ set_to sets.Align 0 ∷ []) ++ cs)) ≡ holds (spell cs)
unfolding table
chars_hold_none [] cs plain =
    let rest = spell cs in
    skip 0x0A (0x1B ∷ 0x45 ∷ 0 ∷ 0x1B ∷ 0x61 ∷ 0 ∷ rest) refl ∙ skip 0x1B (0x45 ∷ 0 ∷ 0x1B ∷ 0x61 ∷ 0 ∷ rest) refl
    ∙ skip 0x45 (0 ∷ 0x1B ∷ 0x61 ∷ 0 ∷ rest) refl ∙ skip 0 (0x1B ∷ 0x61 ∷ 0 ∷ rest) refl ∙ skip 0x1B (0x61 ∷ 0 ∷ rest) refl ∙ skip 0x61 (0 ∷ rest) refl
    ∙ skip 0 rest refl
chars_hold_none (b ∷ bs) cs plain =
    skip b (spell ((map Char bs ++ LineFeed ∷ set_to sets.Emphasis 0 ∷ set_to sets.Align 0 ∷ []) ++ cs)) (not_dle b (plain 0 0 (omega arith)))
    ∙ chars_hold_none bs cs (λ k d h. plain (suc k) d (omega (arith, h)))

line_holds_none : (bs : List ℕ) (cs : List Command) → AllPass is_copy_character bs → holds (spell (copy_line bs ++ cs)) ≡ holds (spell cs)
unfolding table
line_holds_none bs cs plain =
    let rest = spell ((map Char bs ++ LineFeed ∷ set_to sets.Emphasis 0 ∷ set_to sets.Align 0 ∷ []) ++ cs) in
    skip 0x1B (0x61 ∷ 1 ∷ 0x1B ∷ 0x45 ∷ 1 ∷ rest) refl ∙ skip 0x61 (1 ∷ 0x1B ∷ 0x45 ∷ 1 ∷ rest) refl ∙ skip 1 (0x1B ∷ 0x45 ∷ 1 ∷ rest) refl
    ∙ skip 0x1B (0x45 ∷ 1 ∷ rest) refl ∙ skip 0x45 (1 ∷ rest) refl ∙ skip 1 rest refl ∙ chars_hold_none bs cs plain

pub copy_whole : (bs : List ℕ) (cs : List Command) → AllPass is_copy_character bs → Whole cs → Whole (copy_line bs ++ cs)
copy_whole bs cs plain w = record {
  nonempty = λ e. cc;
  in_place = λ before c following e. elim (split_append (copy_line bs) cs before c following e) [
    | inl within ↦ free_follows before c (at_place IsFree before c within.0 (subst (AllByRecursion IsFree) within.1 (free_line bs)))
    | inr later ↦ subst (λ front. MayFollow front c) (sym later.1) (follows_line bs later.0 c (w.in_place later.0 c following later.2))
  ];
  no_real_time = said (copy_line bs ++ cs)
      (λ held. none_in cs w.no_real_time (found (spell cs) (sym (line_holds_none bs cs plain) ∙ finds (spell (copy_line bs ++ cs)) held)));
  no_text_left = ap is_nonempty (text_after_line bs cs) ∙ w.no_text_left;
}
