-- The commands that are passed over.
use Rattle.std.specs.Prelude.{ℕ, ◌≡◌, ◌≢◌, ◌<◌, ◌⊎◌, ◌==◌, ◌&&◌, ◌||◌, not, Bool, true, false, List, [], ◌∷◌, ◌++◌, length, get_or, Option, None, Some, IsTrue}
use Rattle.escpos_passed.specs.declared.table.Except.{Except}
use Rattle.escpos_passed.specs.declared.table.Except.TheVariants as except
use Rattle.escpos_passed.specs.declared.table.Row.{Row}
use Rattle.escpos_passed.specs.declared.table.Form.TheVariants.{Fixed}
use Rattle.escpos_passed.specs.declared.table.Prefix.{Prefix}
use Rattle.escpos_passed.specs.declared.table.Prefix.TheVariants as prefix
use Rattle.escpos_passed.specs.declared.table.TheConstants.{TABLE}
use Rattle.escpos_passed.specs.Lengths.{whole_length}

-- The table of the program. A proof that computes with its rows unfolds it.
unfoldable pub table : List Row
table = TABLE

abbrev pub blank : Row
blank = record { prefix = prefix.One 0; form = Fixed 0; except = None }

abbrev pub row_at : List Row → ℕ → Row
row_at rows i = get_or rows i blank

abbrev pub prefix_bytes : Prefix → List ℕ
prefix_bytes (prefix.One a) = a ∷ []
prefix_bytes (prefix.Two a b) = a ∷ b ∷ []
prefix_bytes (prefix.Three a b c) = a ∷ b ∷ c ∷ []
prefix_bytes (prefix.With a b n) = a ∷ b ∷ n ∷ []

abbrev pub row_prefix : Row → List ℕ
row_prefix r = prefix_bytes r.prefix

-- Two bytes that are a function of GS ( L, or of GS 8 L, that is taken.
abbrev pub is_graphics : ℕ → ℕ → Bool
is_graphics m fn = m == 0x30 && (fn == 0x02 || fn == 0x32 || fn == 0x70)

abbrev pub is_long_graphics : ℕ → ℕ → Bool
is_long_graphics m fn = m == 0x30 && fn == 0x70

-- The bytes after the prefix have a function, and it isn't an excepted one, if there is one.
abbrev pub allows : Option Except → List ℕ → Bool
allows None bs = true
allows (Some (except.First code)) (low ∷ high ∷ b ∷ bs) = not (b == code)
allows (Some except.Graphics) (low ∷ high ∷ m ∷ fn ∷ bs) = not (is_graphics m fn)
allows (Some except.LongGraphics) (first ∷ second ∷ third ∷ fourth ∷ m ∷ fn ∷ bs) = not (is_long_graphics m fn)
allows (Some e) _ = false

-- The same, where the function may still come.
abbrev pub may_allow : Option Except → List ℕ → Bool
may_allow None bs = true
may_allow (Some (except.First code)) (low ∷ high ∷ b ∷ bs) = not (b == code)
may_allow (Some except.Graphics) (low ∷ high ∷ m ∷ fn ∷ bs) = not (is_graphics m fn)
may_allow (Some except.LongGraphics) (first ∷ second ∷ third ∷ fourth ∷ m ∷ fn ∷ bs) = not (is_long_graphics m fn)
may_allow (Some e) _ = true

-- The bytes are a whole command of this row.
pub record IsPassedBy (r : Row) (bs : List ℕ) : Type 0 where
  pub rest : List ℕ
  pub begins : bs ≡ row_prefix r ++ rest
  pub whole : whole_length r.form rest ≡ Some (length rest)
  pub allowed : IsTrue (allows r.except rest)

-- More bytes are to come than these.
abbrev pub IsShort : Option ℕ → ℕ → Type 0
IsShort None n = Unit {0}
IsShort (Some m) n = n < m

-- The bytes are the start of its prefix.
pub record IsPrefixStart (r : Row) (bs : List ℕ) : Type 0 where
  pub begun : bs ≢ []
  pub more : List ℕ
  pub others : more ≢ []
  pub starts : row_prefix r ≡ bs ++ more

-- The bytes are its prefix, and some of the bytes that follow it, but not all.
pub record IsUnfinished (r : Row) (bs : List ℕ) : Type 0 where
  pub rest : List ℕ
  pub begins : bs ≡ row_prefix r ++ rest
  pub short : IsShort (whole_length r.form rest) (length rest)
  pub allowed : IsTrue (may_allow r.except rest)

-- The bytes are the start of a command of this row, and not all of it.
abbrev pub IsPartBy : Row → List ℕ → Type 0
IsPartBy r bs = IsPrefixStart r bs ⊎ IsUnfinished r bs

-- The bytes are a command that is passed over.
abbrev pub IsPassed : List ℕ → Type 0
IsPassed bs = (i : ℕ) × (i < length table) × IsPassedBy (row_at table i) bs

-- The bytes are the start of one, and not all of it.
abbrev pub IsPart : List ℕ → Type 0
IsPart bs = (i : ℕ) × (i < length table) × IsPartBy (row_at table i) bs
