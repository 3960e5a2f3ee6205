-- What one more entry gives, after those that give these commands.
use Rattle.std.proofs.Common.{◌≡◌, ◌≢◌, ℕ, ◌+◌, ◌<◌, List, [], ◌∷◌, ◌++◌, map, take, drop, length, get_or, Ok, Err, inl, refl, sym, ◌∙◌, ap, subst, append-nil, append_assoc, arith}
use Rattle.std.proofs.lemmas.List.{map-append, length-map, length-take-le}
use Rattle.std.proofs.lemmas.Grind.{flat_map-append}
use Rattle.std.specs.List.{flat_map}
use Rattle.serde_json.specs.Data.{Data, array}
use Rattle.escpos_command.specs.declared.command.Command.{Command}
use Rattle.serde_json.specs.View.{view, items_view}
use Rattle.serde_json.specs.declared.value.Value.{Value}
use Rattle.escpos_receipt.specs.declared.entry.Entry.{Entry}
use Rattle.escpos_receipt.specs.declared.entry.EntryFault.{EntryFault}
use Rattle.escpos_receipt.specs.declared.entry.EntryFault.TheVariants.{BadShape, ControlByte, NoCharacter, Memory}
use Rattle.escpos_receipt.specs.declared.json.JsonError.TheVariants.{Refused}
use Rattle.escpos_receipt.specs.declared.json.JsonFault.{JsonFault}
use Rattle.escpos_receipt.specs.declared.json.JsonFault.TheVariants as fault
use Rattle.escpos_receipt.specs.Describes.{DescribesWith, Follow, Give, IsFaultWith, IsJson, IsRefusedArray, IsRefusedEntry, RefusesEntry}
use Rattle.escpos_receipt.specs.declared.options.ReceiptOptions.{ReceiptOptions}
use Rattle.escpos_receipt.specs.declared.in_force.InForce.{InForce}
use Rattle.escpos_receipt.proofs.InForce.{in_force-snoc}
use Rattle.escpos_receipt.specs.EntryCommands.{commands_in, force_after}
use Rattle.escpos_receipt.specs.EntryErrors.{error_at}
use Rattle.escpos_receipt.proofs.Prefixes.{one_longer, split_at}
use Rattle.escpos_receipt.specs.Entries.{in_force, meaning}

pub none_give : (options : ReceiptOptions) → Give options [] []
none_give options = refl

-- After entries that follow others, one more.
follow_snoc : (options : ReceiptOptions) (earlier : List Data) (before : List Command) (ds : List Data) (cs : List Command) (d : Data) (part : List Command)
    → Follow options earlier before ds cs → meaning (in_force options (earlier ++ ds) (before ++ cs)) d ≡ Ok part
    → Follow options earlier before (ds ++ d ∷ []) (cs ++ part)
follow_snoc options earlier before [] cs d part e is =
    let here : in_force options (earlier ++ []) (before ++ cs) ≡ in_force options earlier before =
    ap (λ l. in_force options l (before ++ cs)) (append-nil earlier) ∙ ap (λ l. in_force options earlier (before ++ l)) e ∙ ap (in_force options earlier) (append-nil before) in
    (part, [], sym (ap (λ f. meaning f d) here) ∙ is, ap (λ l. l ++ part) e ∙ sym (append-nil part), refl)
follow_snoc options earlier before (x ∷ ds) cs d part (first, more, means, joined, rest) is =
    let place : in_force options (earlier ++ x ∷ ds) (before ++ cs) ≡ in_force options ((earlier ++ x ∷ []) ++ ds) ((before ++ first) ++ more) =
    ap (λ l. in_force options l (before ++ cs)) (sym (append_assoc earlier (x ∷ []) ds))
    ∙ ap (λ l. in_force options ((earlier ++ x ∷ []) ++ ds) l) (ap (λ l. before ++ l) joined ∙ sym (append_assoc before first more)) in (
      first,
      more ++ part,
      means,
      ap (λ l. l ++ part) joined ∙ append_assoc first more part,
      follow_snoc options (earlier ++ x ∷ []) (before ++ first) ds more d part rest (sym (ap (λ f. meaning f d) place) ∙ is),
    )

pub one_more_gives : (options : ReceiptOptions) (entries : List Data) (cs : List Command) (d : Data) (part : List Command) → Give options entries cs
    → meaning (in_force options entries cs) d ≡ Ok part → Give options (entries ++ d ∷ []) (cs ++ part)
one_more_gives options entries cs d part give is = follow_snoc options [] [] entries cs d part give is

-- The commands of entries, and of one more.
pub one_more_entry : (given : List Entry) (entry : Entry) → flat_map commands_in (given ++ entry ∷ []) ≡ flat_map commands_in given ++ commands_in entry
one_more_entry given entry = flat_map-append commands_in given (entry ∷ []) ∙ ap (λ t. flat_map commands_in given ++ t) (append-nil (commands_in entry))

-- The same for the values that stand for the entries.
values_snoc : (vs : List Value) (i : ℕ) (v : Value) → i < length vs → v ≡ get_or vs i v → map view (take (i + 1) vs) ≡ map view (take i vs) ++ view v ∷ []
values_snoc vs i v h e = ap (map view) (one_longer vs i v h e) ∙ map-append view (take i vs) (v ∷ [])

pub one_more_value : (options : ReceiptOptions) (vs : List Value) (i : ℕ) (v : Value) (cs part : List Command) → i < length vs → v ≡ get_or vs i v
    → Give options (map view (take i vs)) cs → meaning (in_force options (map view (take i vs)) cs) (view v) ≡ Ok part
    → Give options (map view (take (i + 1) vs)) (cs ++ part)
one_more_value options vs i v cs part h e give is =
    subst (λ ds. Give options ds (cs ++ part)) (sym (values_snoc vs i v h e)) (one_more_gives options (map view (take i vs)) cs (view v) part give is)

-- What is in force after the value.
pub one_more_force : (options : ReceiptOptions) (vs : List Value) (i : ℕ) (v : Value) (cs part : List Command) (f next : InForce) → i < length vs → v ≡ get_or vs i v
    → f ≡ in_force options (map view (take i vs)) cs → next ≡ force_after f (view v) part → next ≡ in_force options (map view (take (i + 1) vs)) (cs ++ part)
one_more_force options vs i v cs part f next h is here then =
    then ∙ ap (λ g. force_after g (view v) part) here ∙ sym (in_force-snoc options (map view (take i vs)) cs (view v) part)
    ∙ ap (λ ds. in_force options ds (cs ++ part)) (sym (values_snoc vs i v h is))

refuses : (options : ReceiptOptions) (vs : List Value) (i : ℕ) (v : Value) (cs : List Command) (why : EntryFault) → i < length vs → v ≡ get_or vs i v
    → Give options (map view (take i vs)) cs → meaning (in_force options (map view (take i vs)) cs) (view v) ≡ Err why → RefusesEntry options (map view vs) i why
refuses options vs i v cs why h e give cause = record {
  before = map view (take i vs);
  refused = view v;
  following = map view (drop (i + 1) vs);
  split = ap (map view) (split_at vs i v h e) ∙ map-append view (take i vs) (v ∷ drop (i + 1) vs);
  place = length-map _ _ ∙ length-take-le i vs (omega arith);
  commands = cs;
  earlier = give;
  cause = cause;
}

-- An entry that gives no commands, after others that do, is why the text is refused, unless an allocation failed.
pub refused_at : (options : ReceiptOptions) (vs : List Value) (i : ℕ) (v : Value) (cs : List Command) (why : EntryFault) (because : JsonFault) → i < length vs
    → v ≡ get_or vs i v → Give options (map view (take i vs)) cs → (why ≢ Memory → meaning (in_force options (map view (take i vs)) cs) (view v) ≡ Err why)
    → error_at i why ≡ Refused because → IsRefusedEntry options because (map view vs)
refused_at options vs i v cs BadShape because h e give cause same =
    let is : fault.BadShape i ≡ because = cc in
    subst (λ f. IsRefusedEntry options f (map view vs)) is (refuses options vs i v cs BadShape h e give (cause (λ m. cc)))
refused_at options vs i v cs ControlByte because h e give cause same =
    let is : fault.ControlByte i ≡ because = cc in
    subst (λ f. IsRefusedEntry options f (map view vs)) is (refuses options vs i v cs ControlByte h e give (cause (λ m. cc)))
refused_at options vs i v cs (NoCharacter c) because h e give cause same =
    let is : fault.NoCharacter i c ≡ because = cc in
    subst (λ f. IsRefusedEntry options f (map view vs)) is (refuses options vs i v cs (NoCharacter c) h e give (cause (λ m. cc)))
refused_at options vs i v cs Memory because h e give cause same = absurd cc

-- ## What entries give

-- They give one list of commands.
follow_once : (options : ReceiptOptions) (earlier : List Data) (before : List Command) (entries : List Data) (cs ds : List Command)
    → Follow options earlier before entries cs → Follow options earlier before entries ds → cs ≡ ds
follow_once options earlier before [] cs ds one other = one ∙ sym other
follow_once options earlier before (x ∷ entries) cs ds (p, ps, means, joined, rest) (q, qs, meant, put, others) =
    let both : Ok p ≡ Ok q = sym means ∙ meant in
    let first : p ≡ q = cc in
    let more : ps ≡ qs =
    follow_once options (earlier ++ x ∷ []) (before ++ p) entries ps qs rest
    (subst (λ l. Follow options (earlier ++ x ∷ []) (before ++ l) entries qs) (sym first) others) in
    joined ∙ ap (λ l. l ++ ps) first ∙ ap (λ l. q ++ l) more ∙ sym put

pub gives_once : (options : ReceiptOptions) (entries : List Data) (cs ds : List Command) → Give options entries cs → Give options entries ds → cs ≡ ds
gives_once options = follow_once options [] []

pub refused_array : (options : ReceiptOptions) (because : JsonFault) (entries : List Data) → IsRefusedEntry options because entries → IsRefusedArray options because entries
refused_array options (fault.BadShape at) entries refused = refused
refused_array options (fault.ControlByte at) entries refused = refused
refused_array options (fault.NoCharacter at c) entries refused = refused
refused_array options fault.NotJson entries refused = refused
refused_array options (fault.NotWhole why) entries refused = absurd refused
refused_array options (fault.NotPrintable at) entries refused = absurd refused

-- What they give is what their text describes.
pub describes : (options : ReceiptOptions) (bytes : List ℕ) (d : Data) (vs : List Value) (cs : List Command) → IsJson bytes d → d ≡ array (items_view vs)
    → Give options (map view vs) cs → DescribesWith options bytes cs
describes options bytes d vs cs json is give = record { entries = map view vs; json = subst (IsJson bytes) is json; give = give }

-- Why entries give no receipt is why their text is refused.
pub of_array : (options : ReceiptOptions) (because : JsonFault) (bytes : List ℕ) (d : Data) (vs : List Value) → IsJson bytes d → d ≡ array (items_view vs)
    → IsRefusedArray options because (map view vs) → IsFaultWith options because bytes
of_array options (fault.BadShape at) bytes d vs json is refused = inl (map view vs, subst (IsJson bytes) is json, refused)
of_array options (fault.ControlByte at) bytes d vs json is refused = (map view vs, subst (IsJson bytes) is json, refused)
of_array options (fault.NoCharacter at c) bytes d vs json is refused = (map view vs, subst (IsJson bytes) is json, refused)
of_array options fault.NotJson bytes d vs json is refused = absurd refused
of_array options (fault.NotWhole why) bytes d vs json is (cs, give, because) = (cs, describes options bytes d vs cs json is give, because)
of_array options (fault.NotPrintable at) bytes d vs json is (cs, give, whole, because) = (cs, describes options bytes d vs cs json is give, whole, because)
