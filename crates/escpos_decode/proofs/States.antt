-- What a state says of the half command, by the law of the tree.
use Rattle.std.proofs.Common.{◌≡◌, ◌≢◌, ◌<◌, inl, inr, ℕ, List, [], ◌∷◌, ◌++◌, length, take, refl, sym, ◌∙◌, ap, subst, append_assoc, append-nil, arith, zero, suc, Bool, true, false, cond, length-append, None, Some}
use Rattle.std.specs.Prelude.{◌==◌, ◌&&◌, slice_index, IsTrue, nat_lt, not, Option, option_to_list}
use Rattle.std.specs.List.{list_any}
use Rattle.std.specs.Option.{is_some}
use Rattle.std.proofs.Math.Seq.{take-append_seam, get_or-append_seam}
use Rattle.std.proofs.lemmas.Bool.Decides.{nat_tests}
use Rattle.escpos_command.specs.declared.command.Command.{Command}
use Rattle.escpos_command.specs.declared.command.Command.TheVariants as kind
use Rattle.escpos_command.specs.declared.fault.FaultReason.{FaultReason}
use Rattle.escpos_command.specs.CommandTable.{Spells}
use Rattle.escpos_command.specs.Grammar.{Viable, Half, Reads, FaultAt}
use Rattle.escpos_command.specs.Places.{reason_after}
use Rattle.escpos_command.specs.Prefixes.{part_from}
use Rattle.escpos_command.specs.Tree.{Tree, dead, leaf, node, walk, one, forms, grammar, setting_tree, counted, closed, stopped, rising}
use Rattle.escpos_decode.specs.declared.state.State.{State}
use Rattle.escpos_decode.specs.declared.state.State.TheVariants as state
use Rattle.escpos_decode.specs.declared.state.Ending.{Ending}
use Rattle.escpos_decode.specs.declared.state.Ending.TheVariants as ending
use Rattle.escpos_decode.specs.declared.state.Next.{Next}
use Rattle.escpos_decode.specs.declared.state.Next.TheVariants as next
use Rattle.escpos_decode.specs.declared.decoder.Ahead.{Ahead}
use Rattle.escpos_decode.specs.declared.decoder.Ahead.TheVariants as ahead
use Rattle.escpos_decode.specs.State.{prefix_of, tree_of, has_content, holds, step, command_of, IsAt, Moves, Grows, NextIs}
use Rattle.escpos_decode.specs.Push.{IsRest, AheadIs, ahead_of}
use Rattle.escpos_command.proofs.Readings.{half_at_node, not_viable_at_dead, spelling_at_leaf}
use Rattle.escpos_command.proofs.Combinators.{and_left, and_right, same_number}
use Rattle.escpos_command.proofs.SettingFacts.{is_table}
use Rattle.escpos_command.proofs.SettingRows.{live_setting, some_kind}
use Rattle.escpos_command.proofs.TableTree.{at_form, at_setting}
use Rattle.escpos_command.proofs.TableTree.{at_start as before_all}
use Rattle.escpos_command.proofs.Walks.{IsLive, walk-append, walk-nil}
use Rattle.escpos_command.specs.declared.bytes.TheConstants.{DLE, EOT, ESC, GS}
use Rattle.escpos_command.specs.declared.setting.SettingKind.{SettingKind}
use Rattle.escpos_command.specs.declared.setting.Values.{Values}
use Rattle.escpos_command.specs.declared.setting.Values.TheVariants as values
use Rattle.escpos_command.specs.SettingTable.{table, is_nothing, may_follow, has_first, has_prefix, takes_third, row_for}
use Rattle.escpos_decode.specs.State.{completed}

-- The law of the tree, as `escpos_command` states it.
pub record TreeLaw : Type 0 where
  pub spelling : (c : Command) (bs : List ℕ) → walk grammar bs ≡ leaf c → Spells c bs
  pub half : (bs : List ℕ) (next : ℕ → Tree) → bs ≢ [] → walk grammar bs ≡ node next → Half bs
  pub refused : (bs : List ℕ) → walk grammar bs ≡ dead → Viable bs → ⊥

pub tree_law : TreeLaw
tree_law = record { spelling = spelling_at_leaf; half = half_at_node; refused = not_viable_at_dead }

-- ## Every state has a byte below it

counted_node : (n : ℕ) (test : ℕ → ℕ → Bool) (make : List ℕ → Command) (read : List ℕ) → nat_lt 0 n ≡ true → (next : ℕ → Tree) × (counted n test make read ≡ node next)
unfolding counted
counted_node zero test make read h = absurd (let some : 0 < 0 = grind (arith, nat_tests) in omega arith)
counted_node (suc n) test make read h = (_, refl)

closed_node : (n : ℕ) (test : ℕ → Bool) (whole : List ℕ → Bool) (make : List ℕ → Command) (read : List ℕ) → (next : ℕ → Tree) × (closed n test whole make read ≡ node next)
unfolding closed
closed_node zero test whole make read = (_, refl)
closed_node (suc n) test whole make read = (_, refl)

stopped_node : (n : ℕ) (test stops : ℕ → Bool) (make : List ℕ → Command) (read : List ℕ) → (next : ℕ → Tree) × (stopped n test stops make read ≡ node next)
unfolding stopped
stopped_node zero test stops make read = (_, refl)
stopped_node (suc n) test stops make read = (_, refl)

rising_node : (n before : ℕ) (make : List ℕ → Command) (read : List ℕ) → (next : ℕ → Tree) × (rising n before make read ≡ node next)
unfolding rising
rising_node zero before make read = (_, refl)
rising_node (suc n) before make read = (_, refl)

-- What leads to something live is a choice before that.
node_before : (s : Tree) (b : ℕ) (more : List ℕ) (t : Tree) → walk s (b ∷ more) ≡ t → IsLive t → (next : ℕ → Tree) × (s ≡ node next)
node_before dead b more t e live = absurd (subst IsLive (sym e) live)
node_before (leaf c) b more t e live = absurd (subst IsLive (sym e) live)
node_before (node next) b more t e live = (next, refl)

node_at_prefix : (q : List ℕ) (b : ℕ) (more : List ℕ) (t : Tree) → walk grammar (q ++ b ∷ more) ≡ t → IsLive t → (next : ℕ → Tree) × (walk grammar q ≡ node next)
node_at_prefix q b more t e live = node_before (walk grammar q) b more t (sym (walk-append grammar q (b ∷ more)) ∙ e) live

not_nothing : (v : Values) → not (is_nothing v) ≡ true → is_nothing v ≡ false
not_nothing values.Nothing h = absurd cc
not_nothing _ h = refl

node_at_setting : (which : SettingKind) → not (is_nothing (row_for table which).values) ≡ true → (next : ℕ → Tree) × (setting_tree (row_for table which) ≡ node next)
node_at_setting which h =
    let r = row_for table which in
    (_, ap (λ v. cond v (leaf (kind.Set (r.kind, None))) (one (may_follow r.values) (λ n. kind.Set (r.kind, Some n)))) (not_nothing r.values h))

node_at_first : (first : ℕ) → list_any (has_first first) table ≡ true → (next : ℕ → Tree) × (walk grammar (first ∷ []) ≡ node next)
node_at_first first h =
    let found = some_kind table is_table (has_first first) h in
    let r = row_for table found.0 in
    let to = node_at_prefix (r.first ∷ []) r.second (option_to_list r.third) (setting_tree r) (at_setting found.0) (live_setting r) in
    (to.0, ap (λ v. walk grammar (v ∷ [])) (sym (same_number r.first first found.1)) ∙ to.1)

node_by_third : (first second : ℕ) (third : Option ℕ) (t : Tree) → is_some third ≡ true → walk grammar (first ∷ second ∷ option_to_list third) ≡ t → IsLive t
    → (next : ℕ → Tree) × (walk grammar (first ∷ second ∷ []) ≡ node next)
node_by_third first second None t h e live = absurd cc
node_by_third first second (Some n) t h e live = node_at_prefix (first ∷ second ∷ []) n [] t e live

node_at_letters : (first second : ℕ) → list_any (takes_third first second) table ≡ true → (next : ℕ → Tree) × (walk grammar (first ∷ second ∷ []) ≡ node next)
node_at_letters first second h =
    let found = some_kind table is_table (takes_third first second) h in
    let r = row_for table found.0 in
    let letters = and_left (r.first == first && r.second == second) (is_some r.third) found.1 in
    let to = node_by_third r.first r.second r.third (setting_tree r) (and_right (r.first == first && r.second == second) (is_some r.third) found.1) (at_setting found.0) (live_setting r) in (
      to.0,
      ap (λ v. walk grammar (v ∷ second ∷ [])) (sym (same_number r.first first (and_left (r.first == first) (r.second == second) letters)))
          ∙ ap (λ v. walk grammar (r.first ∷ v ∷ [])) (sym (same_number r.second second (and_right (r.first == first) (r.second == second) letters))) ∙ to.1,
    )

node_at : (p : State) (read : List ℕ) → IsTrue (holds p) → (next : ℕ → Tree) × (tree_of p read ≡ node next)
node_at state.Start read h = before_all
node_at state.Dle read h = node_at_prefix (DLE ∷ []) EOT [] _ (at_form (DLE ∷ EOT ∷ []) refl) tt
node_at state.Esc read h = node_at_prefix (ESC ∷ []) 0x40 [] _ (at_form (ESC ∷ 0x40 ∷ []) refl) tt
node_at state.Gs read h = node_at_prefix (GS ∷ []) 0x56 [] _ (at_form (GS ∷ 0x56 ∷ []) refl) tt
node_at (state.First first) read h = node_at_first first (and_left (list_any (has_first first) table) (part_from (first ∷ []) forms) h)
node_at (state.Letters first second) read h =
    let any = list_any (takes_third first second) table in
    let short = list_any (has_prefix first second None) table in
    node_at_letters first second (and_left any (not short) (and_left (any && not short) (part_from (first ∷ second ∷ []) forms) h))
node_at (state.Setting which) read h = node_at_setting which h
node_at (state.Parameter l) read h = (_, refl)
node_at (state.PositionLow which) read h = (_, refl)
node_at (state.PositionHigh which low) read h = (_, refl)
node_at (state.TabStops most before) read h = rising_node most before _ read
node_at state.PulsePin read h = (_, refl)
node_at (state.PulseOn pin) read h = (_, refl)
node_at (state.PulseOff pin on) read h = (_, refl)
node_at state.CutMode read h = (_, refl)
node_at (state.CutFeed mode) read h = (_, refl)
node_at state.Bracket read h = node_at_prefix (GS ∷ 0x28 ∷ []) 0x48 [] _ (at_form (GS ∷ 0x28 ∷ 0x48 ∷ []) refl) tt
node_at state.MarkLengthLow read h = (_, refl)
node_at state.MarkLengthHigh read h = (_, refl)
node_at state.MarkFunction read h = (_, refl)
node_at state.MarkMode read h = (_, refl)
node_at state.MarkFirst read h = counted_node 4 _ _ _ refl
node_at (state.MarkSecond first) read h = counted_node 3 _ _ _ refl
node_at (state.MarkThird first second) read h = counted_node 2 _ _ _ refl
node_at (state.MarkFourth first second third) read h = counted_node 1 _ _ _ refl
node_at state.BarsMode read h = (_, refl)
node_at (state.PlainContent symbology most) read h = closed_node most _ _ _ read
node_at state.UpceFirst read h = (_, refl)
node_at state.CodabarFirst read h = (_, refl)
node_at (state.CodabarContent most) read h = stopped_node most _ _ _ read
node_at state.CodabarEnd read h = (_, refl)
node_at (state.ContentLength symbology) read h = (_, refl)
node_at (state.Content symbology n wanted) read h = counted_node wanted _ _ read h
node_at state.RasterFunction read h = (_, refl)
node_at state.RasterScale read h = (_, refl)
node_at (state.RasterWidth scale) read h = (_, refl)
node_at (state.RasterWidthHigh scale width) read h = (_, refl)
node_at (state.RasterHeight scale width) read h = (_, refl)
node_at (state.RasterHeightHigh scale width low) read h = (_, refl)
node_at (state.Dots scale width height wanted) read h = counted_node wanted _ _ read h
node_at state.QrLengthLow read h = (_, refl)
node_at (state.QrLengthHigh low) read h = (_, refl)
node_at (state.QrCode length) read h = (_, refl)
node_at (state.QrFunction length) read h = (_, refl)
node_at state.QrModelNumber read h = (_, refl)
node_at (state.QrModelEnd model) read h = (_, refl)
node_at (state.QrStoreMode length) read h = (_, refl)
node_at (state.QrData length wanted) read h = counted_node wanted _ _ read h
node_at state.QrPrintMode read h = (_, refl)
node_at state.GraphicsLengthLow read h = (_, refl)
node_at (state.GraphicsLengthHigh low) read h = (_, refl)
node_at state.LongLetter read h = (_, refl)
node_at state.LongLengthFirst read h = (_, refl)
node_at (state.LongLengthSecond first) read h = (_, refl)
node_at (state.LongLengthThird first second) read h = (_, refl)
node_at (state.LongLengthFourth length) read h = (_, refl)
node_at (state.GraphicsMode form length) read h = (_, refl)
node_at (state.GraphicsFunction form length) read h = (_, refl)
node_at (state.GraphicsTone form count) read h = (_, refl)
node_at (state.GraphicsAcross form count) read h = (_, refl)
node_at (state.GraphicsDown form count across) read h = (_, refl)
node_at (state.GraphicsColor form count across down) read h = (_, refl)
node_at (state.GraphicsWidth form count across down) read h = (_, refl)
node_at (state.GraphicsWidthHigh form count across down low) read h = (_, refl)
node_at (state.GraphicsHeight form count across down width) read h = (_, refl)
node_at (state.GraphicsHeightHigh form count across down width low) read h = (_, refl)
node_at (state.GraphicsDots head count wanted) read h = counted_node wanted _ _ read h

-- ## The half command

rest_or_not : TreeLaw → (half : List ℕ) (next : ℕ → Tree) → walk grammar half ≡ node next → IsRest half
rest_or_not law [] next e = inl refl
rest_or_not law (b ∷ bs) next e = inr (law.half (b ∷ bs) next (λ h. cc) e)

-- Where a decoder may stand, its half command is none or one.
pub rest_at : TreeLaw → (p : State) (read : List ℕ) → IsAt p read → IsRest (prefix_of p ++ read)
rest_at law p read at =
    let below = node_at p read at.held in
    rest_or_not law (prefix_of p ++ read) below.0 (at.leads ∙ below.1)

pub at_start : IsAt state.Start []
at_start = record { leads = walk-nil grammar; held = refl; empty = λ h. refl }

-- One more byte goes on from where the bytes before it lead.
pub walk-snoc : (t : Tree) (bs : List ℕ) (b : ℕ) → walk t (bs ++ b ∷ []) ≡ step (walk t bs) b
walk-snoc dead bs b = refl
walk-snoc (leaf c) [] b = refl
walk-snoc (leaf c) (x ∷ bs) b = refl
walk-snoc (node next) [] b = walk-nil (next b)
walk-snoc (node next) (x ∷ bs) b = walk-snoc (next x) bs b

below : (p : State) (read : List ℕ) (b : ℕ) → IsAt p read → walk grammar ((prefix_of p ++ read) ++ b ∷ []) ≡ step (tree_of p read) b
below p read b at = walk-snoc grammar (prefix_of p ++ read) b ∙ ap (λ t. step t b) at.leads

not_empty : (bs : List ℕ) (b : ℕ) → bs ++ b ∷ [] ≢ []
not_empty bs b e = let longer = ap length e in let count = length-append bs (b ∷ []) in omega arith

-- ## What a byte makes of it

-- Each of these is about a half command that is seen as `half`, at a state with the content `read`, which the code sees as
-- `seen`.

-- A byte that ends a command.
pub spelled : TreeLaw → (p : State) (seen read half : List ℕ) (b : ℕ) (c : Command) → seen ≡ read → prefix_of p ++ read ≡ half → IsAt p read → step (tree_of p seen) b ≡ leaf c
    → Spells c (half ++ b ∷ [])
spelled law p seen read half b c same view at e =
    subst (λ v. Spells c (v ++ b ∷ [])) view
    (law.spelling c ((prefix_of p ++ read) ++ b ∷ []) (below p read b at ∙ ap (λ v. step (tree_of p v) b) (sym same) ∙ e))

-- A byte that is refused.
pub refused : TreeLaw → (p : State) (seen read half : List ℕ) (b : ℕ) → seen ≡ read → prefix_of p ++ read ≡ half → IsAt p read → step (tree_of p seen) b ≡ dead
    → Viable (half ++ b ∷ []) → ⊥
refused law p seen read half b same view at e =
    subst (λ v. Viable (v ++ b ∷ []) → ⊥) view
    (law.refused ((prefix_of p ++ read) ++ b ∷ []) (below p read b at ∙ ap (λ v. step (tree_of p v) b) (sym same) ∙ e))

pub fault : TreeLaw → (p : State) (seen read half : List ℕ) (b n : ℕ) (why : FaultReason) → seen ≡ read → prefix_of p ++ read ≡ half → IsAt p read → step (tree_of p seen) b ≡ dead
    → n ≡ length half → why ≡ reason_after half → FaultAt (half ++ b ∷ []) [] half n why
fault law p seen read half b n why same view at e long reason =
    let front : take n (half ++ b ∷ []) ≡ half = ap (λ m. take m (half ++ b ∷ [])) long ∙ take-append_seam half (b ∷ []) in
    let there : slice_index (half ++ b ∷ []) n ≡ b = ap (slice_index (half ++ b ∷ [])) long ∙ get_or-append_seam half b [] 0 in
    record {
      place = omega (arith, long, length-append half (b ∷ []));
      before = subst (λ v. Reads v [] half) (sym front) (record { commands = tt; whole = refl; rest_is = subst (λ v. IsRest v) view (rest_at law p read at) });
      refused = subst (λ v. Viable (half ++ v ∷ []) → ⊥) (sym there) (refused law p seen read half b same view at e);
      reason = reason;
    }

-- A byte that goes on.
pub record Goes (q : State) (now half : List ℕ) (b : ℕ) : Type 0 where
  pub at : IsAt q now
  pub whole : prefix_of q ++ now ≡ half ++ b ∷ []
  pub begun : Half (half ++ b ∷ [])

goes : TreeLaw → (p q : State) (read now half : List ℕ) (b : ℕ) → prefix_of p ++ read ≡ half → IsAt p read → step (tree_of p read) b ≡ tree_of q now → IsTrue (holds q)
    → prefix_of q ++ now ≡ half ++ b ∷ [] → (has_content q ≡ false → now ≡ []) → Goes q now half b
goes law p q read now half b view at e held whole empty =
    let to = node_at q now held in
    let leads = ap (λ v. walk grammar (v ++ b ∷ [])) (sym view) ∙ below p read b at ∙ e in
    record {
      at = record { leads = ap (walk grammar) whole ∙ leads; held = held; empty = empty };
      whole = whole;
      begun = law.half (half ++ b ∷ []) to.0 (not_empty half b) (leads ∙ to.1);
    }

pub moved : TreeLaw → (p q : State) (seen read half : List ℕ) (b : ℕ) → seen ≡ read → prefix_of p ++ read ≡ half → IsAt p read → Moves p seen b q → Goes q read half b
moved law p q seen read half b same view at m =
    let none : read ≡ [] = at.empty m.from in
    goes law p q read read half b view at (ap (λ v. step (tree_of p v) b) (sym same) ∙ m.below ∙ ap (tree_of q) (sym none)) m.held
    (ap (λ v. prefix_of q ++ v) none ∙ append-nil (prefix_of q) ∙ m.grown
    ∙ ap (λ v. v ++ b ∷ []) (sym (append-nil (prefix_of p)) ∙ ap (λ v. prefix_of p ++ v) (sym none) ∙ view)) (λ h. none)

has_some : (b : Bool) → b ≡ true → b ≡ false → ⊥
has_some b h k = let clash : true ≡ false = sym h ∙ k in cc

pub grown : TreeLaw → (p q : State) (seen read now half : List ℕ) (b : ℕ) → seen ≡ read → prefix_of p ++ read ≡ half → IsAt p read → Grows p seen b q → now ≡ read ++ b ∷ []
    → Goes q now half b
grown law p q seen read now half b same view at g e =
    goes law p q read now half b view at (ap (λ v. step (tree_of p v) b) (sym same) ∙ g.below ∙ ap (tree_of q) (ap (λ v. v ++ b ∷ []) same ∙ sym e)) g.held
    (ap (λ v. prefix_of q ++ v) e ∙ ap (λ v. v ++ (read ++ b ∷ [])) g.same ∙ sym (append_assoc (prefix_of p) read (b ∷ [])) ∙ ap (λ v. v ++ b ∷ []) view)
    (λ h. absurd (has_some (has_content q) g.has h))

-- ## What a byte would complete

some_ahead : (c : Command) → ahead_of c ≢ ahead.Nothing
some_ahead (kind.Char x) e = absurd cc
some_ahead kind.Tab e = absurd cc
some_ahead kind.LineFeed e = absurd cc
some_ahead kind.Return e = absurd cc
some_ahead kind.Init e = absurd cc
some_ahead (kind.Set x) e = absurd cc
some_ahead (kind.FeedLines x) e = absurd cc
some_ahead (kind.FeedUnits x) e = absurd cc
some_ahead (kind.Position x) e = absurd cc
some_ahead (kind.TabStops x) e = absurd cc
some_ahead (kind.Pulse x) e = absurd cc
some_ahead (kind.Bars x) e = absurd cc
some_ahead (kind.Raster x) e = absurd cc
some_ahead (kind.Cut x) e = absurd cc
some_ahead (kind.OldCut x) e = absurd cc
some_ahead (kind.QrModel x) e = absurd cc
some_ahead (kind.QrSize x) e = absurd cc
some_ahead (kind.QrLevel x) e = absurd cc
some_ahead (kind.QrStore x) e = absurd cc
some_ahead kind.QrPrint e = absurd cc
some_ahead (kind.GraphicsStore x) e = absurd cc
some_ahead (kind.GraphicsPrint x) e = absurd cc
some_ahead (kind.AutomaticStatus x) e = absurd cc
some_ahead (kind.Status x) e = absurd cc
some_ahead (kind.Mark x) e = absurd cc

told : (a : Ahead) (c : Command) (half : List ℕ) (b : ℕ) → ahead_of c ≡ a → a ≢ ahead.Nothing → Spells c (half ++ b ∷ []) → AheadIs a half b
told ahead.Nothing c half b e some s = absurd (some refl)
told ahead.Status c half b e some s = (c, s, e)
told ahead.Mark c half b e some s = (c, s, e)
told ahead.Other c half b e some s = (c, s, e)

other : (e : Ending) (read : List ℕ) → ahead_of (command_of e read) ≡ ahead.Other
other (ending.Bars form symbology) read = refl
other (ending.Raster scale width height) read = refl
other ending.QrStore read = refl
other (ending.Graphics head) read = refl
other ending.TabStops read = refl

no_command : (half : List ℕ) (b : ℕ) → (Viable (half ++ b ∷ []) → ⊥) → (c : Command) → Spells c (half ++ b ∷ []) → ⊥
no_command half b r c s = r (c, [], subst (λ v. Spells c v) (sym (append-nil (half ++ b ∷ []))) s)

pub ahead_is : TreeLaw → (n : Next) (p : State) (seen read half : List ℕ) (b : ℕ) → seen ≡ read → prefix_of p ++ read ≡ half → IsAt p read → NextIs n p seen b
    → AheadIs (completed n) half b
ahead_is law next.Refused p seen read half b same view at h = no_command half b (refused law p seen read half b same view at h)
ahead_is law (next.To q) p seen read half b same view at h = (moved law p q seen read half b same view at h.0).begun.no_spelling
ahead_is law (next.Room q count) p seen read half b same view at h = (moved law p q seen read half b same view at h.0).begun.no_spelling
ahead_is law (next.Grow q) p seen read half b same view at h = (grown law p q seen read (read ++ b ∷ []) half b same view at h.0 refl).begun.no_spelling
ahead_is law (next.Keep q) p seen read half b same view at h = (grown law p q seen read (read ++ b ∷ []) half b same view at h.0 refl).begun.no_spelling
ahead_is law (next.Done c) p seen read half b same view at h = told (ahead_of c) c half b refl (some_ahead c) (spelled law p seen read half b c same view at h.0)
ahead_is law (next.Last e) p seen read half b same view at h =
    (command_of e (seen ++ b ∷ []), spelled law p seen read half b _ same view at h.0, other e (seen ++ b ∷ []))
ahead_is law (next.Closes e) p seen read half b same view at h = (command_of e seen, spelled law p seen read half b _ same view at h, other e seen)
