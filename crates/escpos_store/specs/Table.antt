-- The table that a ledger's entries are kept in, and each entry as a row of it.
use Rattle.std.specs.Prelude.{ℕ, ◌+◌, ◌<◌, ◌==◌, ◌^◌, if◌then◌else◌, true, false, pos, Option, None, Some, codes, List, [], ◌∷◌, IfSome, IsTrue}
use Rattle.escpos_command.specs.declared.line_width.TheConstants.{USUAL_LINE_DOTS}
use Rattle.escpos_command.specs.LineWidths.{is_line_width}
use Rattle.escpos_text.specs.Replacements.{is_replacement}
use Rattle.escpos_till.specs.declared.entry.Entry.{Entry}
use Rattle.escpos_till.specs.declared.entry.Entry.TheVariants as entry
use Rattle.escpos_till.specs.Keys.{IsKey}
use Rattle.sqlite.specs.declared.types.Value.{Value}
use Rattle.sqlite.specs.declared.types.Value.TheVariants.{Null, Int, Blob as Bytes}
use Rattle.sqlite.specs.Collation.TheVariants.{Binary}
use Rattle.sqlite.specs.Order.{Row, column}
use Rattle.sqlite.specs.Table.{Table}
use Rattle.sqlite_schema.specs.declared.schema.Column.{Column}
use Rattle.sqlite.specs.Schema.{Schema}
use Rattle.sqlite.specs.Kind.TheVariants.{Integer, Blob}

-- ## The schema

-- the statement that makes the table
abbrev pub create_text : List ℕ
create_text = codes "CREATE TABLE entry (id INTEGER PRIMARY KEY, kind INTEGER NOT NULL, number INTEGER NOT NULL, next INTEGER NOT NULL, content BLOB) STRICT"

-- the statement that adds a row
abbrev pub insert_text : List ℕ
insert_text = codes "INSERT INTO entry (id, kind, number, next, content) VALUES (?1, ?2, ?3, ?4, ?5)"

-- the statement that adds two rows, both or neither
abbrev pub insert_both_text : List ℕ
insert_both_text = codes "INSERT INTO entry (id, kind, number, next, content) VALUES (?1, ?2, ?3, ?4, ?5), (?6, ?7, ?8, ?9, ?10)"

-- the query that gives the rows in order
abbrev pub select_text : List ℕ
select_text = codes "SELECT id, kind, number, next, content FROM entry ORDER BY id"

abbrev pub integer_column : List ℕ → Column
integer_column name = record { name = name; kind = Integer; is_strict = true; not_null = true; default = Null; collation = Binary }

abbrev pub entry_table : Table
entry_table = record {
  name = codes "entry";
  tree = 0;
  columns = (record { name = codes "id"; kind = Integer; is_strict = true; not_null = false; default = Null; collation = Binary })
      ∷ integer_column (codes "kind") ∷ integer_column (codes "number") ∷ integer_column (codes "next")
      ∷ (record { name = codes "content"; kind = Blob; is_strict = true; not_null = false; default = Null; collation = Binary }) ∷ [];
  key = Some 0;
  primary = 0 ∷ [];
  uniques = [];
  orders = [];
  checks = [];
  references = [];
  computed = [];
  stamps = record { places = []; terms = []; formats = [] };
  is_counted = false;
}

-- a ledger has this table and nothing else
abbrev pub ledger_schema : Schema
ledger_schema = record { tables = entry_table ∷ []; indexes = []; views = [] }

-- a new database has nothing
abbrev pub no_schema : Schema
no_schema = record { tables = []; indexes = []; views = [] }

-- ## The rows

abbrev pub kind_of : Entry → ℕ
kind_of (entry.Queued content) = 1
kind_of (entry.Tried number next) = 2
kind_of (entry.Recorded number h) = 3
kind_of (entry.Raised next h) = 4
kind_of (entry.Cancelled number) = 5
kind_of (entry.Key key) = 6
kind_of (entry.Renewed last h) = 7
kind_of (entry.Earlier number key) = 8

-- The dots of a receipt's lines, but 0 for the usual 512, as in ledgers that know no other width. A line has 1 dot at least, so
-- that 512 for none makes the numbers of all widths differ.
abbrev pub width_number : ℕ → ℕ
width_number dots = if dots == USUAL_LINE_DOTS then 0 else if dots == 0 then USUAL_LINE_DOTS else dots

-- The replacement of a receipt's options: its code and 1, and 0 where there is none.
abbrev pub replacement_number : Option ℕ → ℕ
replacement_number None = 0
replacement_number (Some code) = code + 1

-- the receipt's number, or the last one of an older ledger; in an entry by which a receipt is taken the width of its lines, in one by which the
-- next mark number is raised what is heard of marks, and 0 in an entry that has none of these
abbrev pub number_of : Entry → ℕ
number_of (entry.Queued content) = width_number content.options.width
number_of (entry.Tried number next) = number
number_of (entry.Recorded number h) = number
number_of (entry.Raised next h) = h
number_of (entry.Cancelled number) = number
number_of (entry.Key key) = 0
number_of (entry.Renewed last h) = last
number_of (entry.Earlier number key) = number

-- the mark number that is free afterwards; in an entry by which a receipt is taken its replacement, in one by which it is recorded or a ledger goes
-- on what is heard of marks, and 0 in an entry that has none of these
abbrev pub next_of : Entry → ℕ
next_of (entry.Queued content) = replacement_number content.options.replacement
next_of (entry.Tried number next) = next
next_of (entry.Recorded number h) = h
next_of (entry.Raised next h) = next
next_of (entry.Cancelled number) = 0
next_of (entry.Key key) = 0
next_of (entry.Renewed last h) = h
next_of (entry.Earlier number key) = 0

-- the receipt's text, or its key, and NULL in an entry that has neither
abbrev pub content_of : Entry → Value
content_of (entry.Queued content) = Bytes content.text
content_of (entry.Tried number next) = Null
content_of (entry.Recorded number h) = Null
content_of (entry.Raised next h) = Null
content_of (entry.Cancelled number) = Null
content_of (entry.Key key) = Bytes key
content_of (entry.Renewed last h) = Null
content_of (entry.Earlier number key) = Bytes key

-- the row of an entry: id, kind, number, next, content
abbrev pub row_of : ℕ → Entry → Row
row_of id e = Int (pos id) ∷ Int (pos (kind_of e)) ∷ Int (pos (number_of e)) ∷ Int (pos (next_of e)) ∷ content_of e ∷ []

-- The entry is one that the types have: receipt numbers begin at 1, a mark number has 32 bits, and so has the last number of an older ledger, the
-- width and the replacement of a receipt's options are ones that there are, and a key is one.
abbrev pub IsReal : Entry → Type 0
IsReal (entry.Queued content) = IsTrue (is_line_width content.options.width) × IfSome content.options.replacement (λ code. IsTrue (is_replacement code))
IsReal (entry.Tried number next) = (0 < number) × (next < 2 ^ 32)
IsReal (entry.Recorded number h) = (0 < number) × (h < 2 ^ 32)
IsReal (entry.Raised next h) = (next < 2 ^ 32) × (h < 2 ^ 32)
IsReal (entry.Cancelled number) = 0 < number
IsReal (entry.Key key) = IsKey key
IsReal (entry.Renewed last h) = (last < 2 ^ 32) × (h < 2 ^ 32)
IsReal (entry.Earlier number key) = (0 < number) × IsKey key

abbrev pub rows_from : ℕ → List Entry → List Row
rows_from id [] = []
rows_from id (e ∷ entries) = row_of id e ∷ rows_from (id + 1) entries

-- the rows of some entries, whose ids are 1, 2, 3 and so on
abbrev pub rows : List Entry → List Row
rows = rows_from 1

-- what a query shows of a row of the table: the rowid, which is the id, and the columns after the id
abbrev pub visible : Row → Row
visible row = column row 0 ∷ column row 2 ∷ column row 3 ∷ column row 4 ∷ column row 5 ∷ []
