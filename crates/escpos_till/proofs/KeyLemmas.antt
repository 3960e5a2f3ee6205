-- The keys of receipts: what one more entry does to them, and that one key is one receipt.
use Rattle.std.proofs.Common.{ℕ, zero, suc, ◌≡◌, ◌≢◌, ◌+◌, ◌<◌, ◌≤◌, ◌⊎◌, inl, inr, Option, Some, None, List, [], ◌∷◌, ◌++◌, length, take, get_or, refl, sym, ◌∙◌, ap, subst, append_assoc, append-nil, length-append, add-one, arith}
use Rattle.std.proofs.Math.Seq.{take-suc}
use Rattle.std.proofs.lemmas.Option.{same_Some}
use Rattle.std.proofs.lemmas.List.Elements.{filter_map-append}
use Rattle.escpos_till.specs.declared.entry.Content.{Content}
use Rattle.escpos_till.specs.declared.entry.Entry.{Entry}
use Rattle.escpos_till.specs.declared.entry.Entry.TheVariants.{Queued, Tried, Recorded, Raised, Cancelled, Key, Renewed, Earlier}
use Rattle.escpos_till.specs.Book.{HasKeys}
use Rattle.escpos_till.specs.Entries.{CameWithKey, HasKey, IsLedger, TakenWithKey, content_of, contents, earlier, key_of, last_key, last_key_or, last_number}
use Rattle.escpos_till.specs.Keyed.{Keyed, ListsKey, ListsNumber}
use Rattle.escpos_till.proofs.EntryLemmas.{earlier-snoc, earlier_grows, split_snoc}

-- ## Lists of keys

lists_join : (xs ys : List Keyed) (k : List ℕ) (n : ℕ) → ListsKey (xs ++ ys) k n → ListsKey xs k n ⊎ ListsKey ys k n
lists_join [] ys k n has = inr has
lists_join (x ∷ xs) ys k n (inl here) = inl (inl here)
lists_join (x ∷ xs) ys k n (inr later) = elim (lists_join xs ys k n later) [
  | inl first ↦ inl (inr first)
  | inr last ↦ inr last
]

lists_more : (xs ys : List Keyed) (k : List ℕ) (n : ℕ) → ListsKey xs k n → ListsKey (xs ++ ys) k n
lists_more [] ys k n has = absurd has
lists_more (x ∷ xs) ys k n (inl here) = inl here
lists_more (x ∷ xs) ys k n (inr later) = inr (lists_more xs ys k n later)

lists_last : (xs ys : List Keyed) (k : List ℕ) (n : ℕ) → ListsKey ys k n → ListsKey (xs ++ ys) k n
lists_last [] ys k n has = has
lists_last (x ∷ xs) ys k n has = inr (lists_last xs ys k n has)

-- One of the first ones, or the one after them.
pub lists_next : (xs : List Keyed) (i : ℕ) (x : Keyed) (k : List ℕ) (n : ℕ) → i < length xs → x ≡ get_or xs i x → ListsKey (take (i + 1) xs) k n
    → ListsKey (take i xs) k n ⊎ ((x.0 ≡ k) × (x.1 ≡ n))
lists_next xs i x k n inside is has =
    let longer : take (i + 1) xs ≡ take i xs ++ x ∷ [] = ap (λ m. take m xs) (add-one i) ∙ take-suc xs i x inside ∙ ap (λ y. take i xs ++ y ∷ []) (sym is) in
    elim (lists_join (take i xs) (x ∷ []) k n (subst (λ v. ListsKey v k n) longer has)) [
      | inl first ↦ inl first
      | inr (inl here) ↦ inr here
      | inr (inr later) ↦ absurd later
    ]

-- ## Numbers of such a list

numbers_join : (xs ys : List Keyed) (n : ℕ) → ListsNumber (xs ++ ys) n → ListsNumber xs n ⊎ ListsNumber ys n
numbers_join [] ys n has = inr has
numbers_join (x ∷ xs) ys n (inl here) = inl (inl here)
numbers_join (x ∷ xs) ys n (inr later) = elim (numbers_join xs ys n later) [
  | inl first ↦ inl (inr first)
  | inr last ↦ inr last
]

pub number_at : (xs : List Keyed) (i : ℕ) (x : Keyed) (n : ℕ) → i < length xs → x ≡ get_or xs i x → x.1 ≡ n → ListsNumber xs n
number_at [] i x n inside is so = absurd (omega (arith, inside))
number_at (y ∷ xs) zero x n inside is so = inl (subst (λ (v : Keyed). v.1 ≡ n) is so)
number_at (y ∷ xs) (suc i) x n inside is so = inr (number_at xs i x n (omega (arith, inside)) is so)

pub no_number_so_far : (xs : List Keyed) (i : ℕ) (x : Keyed) (n : ℕ) → i < length xs → x ≡ get_or xs i x → (ListsNumber (take i xs) n → ⊥) → (x.1 ≡ n → ⊥)
    → ListsNumber (take (i + 1) xs) n → ⊥
no_number_so_far xs i x n inside is before other has =
    let longer : take (i + 1) xs ≡ take i xs ++ x ∷ [] = ap (λ m. take m xs) (add-one i) ∙ take-suc xs i x inside ∙ ap (λ y. take i xs ++ y ∷ []) (sym is) in
    elim (numbers_join (take i xs) (x ∷ []) n (subst (λ v. ListsNumber v n) longer has)) [
      | inl first ↦ before first
      | inr (inl here) ↦ other here
      | inr (inr later) ↦ later
    ]

-- A number is listed with some key, and the number of a listed key is listed.
pub key_of_number : (xs : List Keyed) (n : ℕ) → ListsNumber xs n → (k : List ℕ) × ListsKey xs k n
key_of_number [] n has = absurd has
key_of_number (x ∷ xs) n (inl here) = (x.0, inl (refl, here))
key_of_number (x ∷ xs) n (inr later) = let found = key_of_number xs n later in (found.0, inr found.1)

pub number_of_key : (xs : List Keyed) (k : List ℕ) (n : ℕ) → ListsKey xs k n → ListsNumber xs n
number_of_key [] k n has = absurd has
number_of_key (x ∷ xs) k n (inl here) = inl here.1
number_of_key (x ∷ xs) k n (inr later) = inr (number_of_key xs k n later)

-- ## The key that the last entry says

last_key-snoc : (key : Option (List ℕ)) (es : List Entry) (e : Entry) → last_key_or key (es ++ e ∷ []) ≡ key_of e
last_key-snoc key [] e = refl
last_key-snoc key (x ∷ es) e = last_key-snoc (key_of x) es e

pub last_key_after : (es : List Entry) (e : Entry) → last_key (es ++ e ∷ []) ≡ key_of e
last_key_after es e = last_key-snoc None es e

key_is : (e : Entry) (k : List ℕ) → key_of e ≡ Some k → e ≡ Key k
key_is (Key j) k h = ap Key (same_Some j k h)
key_is (Queued content) k h = absurd (let bad : None ≡ Some k = h in cc)
key_is (Tried n next) k h = absurd (let bad : None ≡ Some k = h in cc)
key_is (Recorded n hd) k h = absurd (let bad : None ≡ Some k = h in cc)
key_is (Raised next hd) k h = absurd (let bad : None ≡ Some k = h in cc)
key_is (Cancelled n) k h = absurd (let bad : None ≡ Some k = h in cc)
key_is (Renewed last hd) k h = absurd (let bad : None ≡ Some k = h in cc)
key_is (Earlier n key) k h = absurd (let bad : None ≡ Some k = h in cc)

ends_so : (key : Option (List ℕ)) (es : List Entry) (k : List ℕ) → last_key_or key es ≡ Some k → ((es ≡ []) × (key ≡ Some k)) ⊎ ((before : List Entry) × (es ≡ before ++ Key k ∷ []))
ends_so key [] k h = inl (refl, h)
ends_so key (e ∷ es) k h = elim (ends_so (key_of e) es k h) [
  | inl (none, is) ↦ inr ([], ap (λ rest. e ∷ rest) none ∙ ap (λ x. x ∷ []) (key_is e k is))
  | inr (before, same) ↦ inr (e ∷ before, ap (λ rest. e ∷ rest) same)
]

ends_with_key : (es : List Entry) (k : List ℕ) → last_key es ≡ Some k → (before : List Entry) × (es ≡ before ++ Key k ∷ [])
ends_with_key es k h = elim (ends_so None es k h) [
  | inl (none, is) ↦ absurd (let bad : None ≡ Some k = is in cc)
  | inr it ↦ it
]

-- ## One more entry

taken_stays : (es more : List Entry) (k : List ℕ) (n : ℕ) → TakenWithKey es k n → TakenWithKey (es ++ more) k n
taken_stays es more k n h = record {
  before = h.before;
  content = h.content;
  following = h.following ++ more;
  entries_are = ap (λ x. x ++ more) h.entries_are ∙ append_assoc h.before (Key k ∷ Queued h.content ∷ h.following) more;
  number_is = h.number_is;
}

came_stays : (es more : List Entry) (k : List ℕ) (n : ℕ) → CameWithKey es k n → CameWithKey (es ++ more) k n
came_stays es more k n h = record {
  before = h.before;
  following = h.following ++ more;
  entries_are = ap (λ x. x ++ more) h.entries_are ∙ append_assoc h.before (Earlier n k ∷ h.following) more;
  from_one = h.from_one;
  older = h.older;
}

pub has_here : (es : List Entry) (k : List ℕ) (n : ℕ) → TakenWithKey es k n → HasKey es k n
has_here es k n h = record { said = inl h }

has_older : (es : List Entry) (k : List ℕ) (n : ℕ) → CameWithKey es k n → HasKey es k n
has_older es k n h = record { said = inr h }

pub key_stays : (es more : List Entry) (k : List ℕ) (n : ℕ) → HasKey es k n → HasKey (es ++ more) k n
key_stays es more k n has = elim has.said [
  | inl h ↦ has_here (es ++ more) k n (taken_stays es more k n h)
  | inr h ↦ has_older (es ++ more) k n (came_stays es more k n h)
]

-- By this entry no key comes into force.
abbrev pub GivesNoKey : Entry → Type 0
GivesNoKey (Queued content) = ⊥
GivesNoKey (Tried n next) = Unit {0}
GivesNoKey (Recorded n hd) = Unit {0}
GivesNoKey (Raised next hd) = Unit {0}
GivesNoKey (Cancelled n) = Unit {0}
GivesNoKey (Key key) = Unit {0}
GivesNoKey (Renewed last hd) = Unit {0}
GivesNoKey (Earlier n key) = ⊥

-- A key of the longer list is one of before, or that of the receipt that the new entry takes, or the one that the new entry says.
taken_split : (es : List Entry) (e : Entry) (k : List ℕ) (n : ℕ) → TakenWithKey (es ++ e ∷ []) k n
    → TakenWithKey es k n ⊎ ((before : List Entry) × (content : Content) × (e ≡ Queued content) × (es ≡ before ++ Key k ∷ []) × (n ≡ last_number before + 1))
taken_split es e k n h =
    let moved : es ++ e ∷ [] ≡ (h.before ++ Key k ∷ []) ++ Queued h.content ∷ h.following = h.entries_are ∙ sym (append_assoc h.before (Key k ∷ []) (Queued h.content ∷ h.following)) in
    elim (split_snoc es (h.before ++ Key k ∷ []) e (Queued h.content) h.following moved) [
      | inl last ↦ inr (h.before, h.content, sym last.1, sym last.0, h.number_is)
      | inr within ↦ inl (record {
        before = h.before;
        content = h.content;
        following = within.0;
        entries_are = within.1 ∙ append_assoc h.before (Key k ∷ []) (Queued h.content ∷ within.0);
        number_is = h.number_is;
      })
    ]

came_split : (es : List Entry) (e : Entry) (k : List ℕ) (n : ℕ) → CameWithKey (es ++ e ∷ []) k n → CameWithKey es k n ⊎ (e ≡ Earlier n k)
came_split es e k n h =
    elim (split_snoc es h.before e (Earlier n k) h.following h.entries_are) [
      | inl last ↦ inr (sym last.1)
      | inr within ↦ inl (record { before = h.before; following = within.0; entries_are = within.1; from_one = h.from_one; older = h.older })
    ]

key_split : (es : List Entry) (e : Entry) (k : List ℕ) (n : ℕ) → HasKey (es ++ e ∷ []) k n
    → HasKey es k n ⊎ (((before : List Entry) × (content : Content) × (e ≡ Queued content) × (es ≡ before ++ Key k ∷ []) × (n ≡ last_number before + 1)) ⊎ (e ≡ Earlier n k))
key_split es e k n has = elim has.said [
  | inl h ↦ elim (taken_split es e k n h) [
    | inl before ↦ inl (has_here es k n before)
    | inr new ↦ inr (inl new)
  ]
  | inr h ↦ elim (came_split es e k n h) [
    | inl before ↦ inl (has_older es k n before)
    | inr new ↦ inr (inr new)
  ]
]

last_with_key : (before es : List Entry) (k : List ℕ) → es ≡ before ++ Key k ∷ [] → last_number before ≡ last_number es
last_with_key before es k is =
    let same : contents es ≡ contents before = ap contents is ∙ filter_map-append content_of before (Key k ∷ []) ∙ append-nil (contents before) in
    let older : earlier es ≡ earlier before = ap earlier is ∙ earlier-snoc before (Key k) refl in
    omega (arith, ap length same, older)

-- A key that the last entry says is no receipt's.
pub key_is_new : (keys : List Keyed) (es : List Entry) (k : List ℕ) (n : ℕ) → IsLedger es → last_key es ≡ Some k → HasKeys keys es → ListsKey keys k n → ⊥
key_is_new keys es k n ledger last has lists =
    let (before, ends) = ends_with_key es k last in
    elim (key_split before (Key k) k n (subst (λ v. HasKey v k n) ends (has.listed k n lists))) [
      | inl earlier ↦ ledger before (Key k) [] ends n earlier
      | inr (inl (b, content, is, at, number)) ↦ absurd (let bad : Key k ≡ Queued content = is in cc)
      | inr (inr is) ↦ absurd (let bad : Key k ≡ Earlier n k = is in cc)
    ]

-- By an entry that gives none no key comes into force.
pub keys_as_before : (keys : List Keyed) (es : List Entry) (e : Entry) → GivesNoKey e → HasKeys keys es → HasKeys keys (es ++ e ∷ [])
keys_as_before keys es e none has = record {
  known = λ k n h. elim (key_split es e k n h) [
    | inl before ↦ has.known k n before
    | inr (inl (before, content, is, ends, number)) ↦ absurd (subst GivesNoKey is none)
    | inr (inr is) ↦ absurd (subst GivesNoKey is none)
  ];
  listed = λ k n l. key_stays es (e ∷ []) k n (has.listed k n l);
}

-- A receipt that comes directly after no key has none.
pub keys_after_plain : (keys : List Keyed) (es : List Entry) (content : Content) → last_key es ≡ None → HasKeys keys es → HasKeys keys (es ++ Queued content ∷ [])
keys_after_plain keys es content none has = record {
  known = λ k n h. elim (key_split es (Queued content) k n h) [
    | inl before ↦ has.known k n before
    | inr (inl (before, c, is, ends, number)) ↦
        absurd (let bad : None ≡ Some k = sym none ∙ ap last_key ends ∙ last_key_after before (Key k) in cc)
    | inr (inr is) ↦ absurd (let bad : Queued content ≡ Earlier n k = is in cc)
  ];
  listed = λ k n l. key_stays es (Queued content ∷ []) k n (has.listed k n l);
}

-- One that comes directly after a key has that.
pub keys_after_keyed : (keys : List Keyed) (es : List Entry) (content : Content) (key : List ℕ) (number : ℕ) → last_key es ≡ Some key → number ≡ last_number es + 1 → HasKeys keys es
    → HasKeys (keys ++ (key, number) ∷ []) (es ++ Queued content ∷ [])
keys_after_keyed keys es content key number last is has =
    let one : List Keyed = (key, number) ∷ [] in
    record {
      known = λ k n h. elim (key_split es (Queued content) k n h) [
        | inl before ↦ lists_more keys one k n (has.known k n before)
        | inr (inl (before, c, kind, ends, so)) ↦
            let same : key ≡ k = same_Some key k (sym last ∙ ap last_key ends ∙ last_key_after before (Key k)) in
            let here : number ≡ n = omega (arith, is, so, last_with_key before es k ends) in
            lists_last keys one k n (inl (same, here))
        | inr (inr other) ↦ absurd (let bad : Queued content ≡ Earlier n k = other in cc)
      ];
      listed = λ k n l. elim (lists_join keys one k n l) [
        | inl before ↦ key_stays es (Queued content ∷ []) k n (has.listed k n before)
        | inr (inl (same, here)) ↦
            let (before, ends) = ends_with_key es k (last ∙ ap Some same) in
            has_here (es ++ Queued content ∷ []) k n (record {
              before = before;
              content = content;
              following = [];
              entries_are = ap (λ x. x ++ Queued content ∷ []) ends ∙ append_assoc before (Key k ∷ []) (Queued content ∷ []);
              number_is = omega (arith, here, is, last_with_key before es k ends);
            })
        | inr (inr none) ↦ absurd none
      ];
    }

-- An entry says the key of a receipt of an older ledger.
pub keys_after_earlier : (keys : List Keyed) (es : List Entry) (key : List ℕ) (number : ℕ) → 0 < number → number ≤ earlier es → HasKeys keys es
    → HasKeys (keys ++ (key, number) ∷ []) (es ++ Earlier number key ∷ [])
keys_after_earlier keys es key number from_one older has =
    let one : List Keyed = (key, number) ∷ [] in
    record {
      known = λ k n h. elim (key_split es (Earlier number key) k n h) [
        | inl before ↦ lists_more keys one k n (has.known k n before)
        | inr (inl (before, c, kind, ends, so)) ↦ absurd (let bad : Earlier number key ≡ Queued c = kind in cc)
        | inr (inr is) ↦
            let same : key ≡ k = cc is in
            let here : number ≡ n = cc is in
            lists_last keys one k n (inl (same, here))
      ];
      listed = λ k n l. elim (lists_join keys one k n l) [
        | inl before ↦ key_stays es (Earlier number key ∷ []) k n (has.listed k n before)
        | inr (inl (same, here)) ↦
            has_older (es ++ Earlier number key ∷ []) k n (record {
              before = es;
              following = [];
              entries_are = ap (λ j. es ++ Earlier number j ∷ []) same ∙ ap (λ m. es ++ Earlier m k ∷ []) here;
              from_one = subst (λ m. 0 < m) here from_one;
              older = subst (λ m. m ≤ earlier es) here older;
            })
        | inr (inr none) ↦ absurd none
      ];
    }

no_entries : (before : List Entry) (e : Entry) (following : List Entry) → [] ≡ before ++ e ∷ following → ⊥
no_entries [] e following same = let bad : [] ≡ e ∷ following = same in cc
no_entries (b ∷ before) e following same = let bad : [] ≡ b ∷ (before ++ e ∷ following) = same in cc

has_none : (k : List ℕ) (n : ℕ) → HasKey [] k n → ⊥
has_none k n has = elim has.said [
  | inl h ↦ no_entries h.before (Key k) (Queued h.content ∷ h.following) h.entries_are
  | inr h ↦ no_entries h.before (Earlier n k) h.following h.entries_are
]

pub no_keys : HasKeys [] []
no_keys = record {
  known = λ k n h. absurd (has_none k n h);
  listed = λ k n none. absurd none;
}

-- ## One key is one receipt

-- Of two places in a list one comes first, or they are the same.
splits : {X : Type 0} (b c : List X) (x y : X) (f g : List X) → b ++ x ∷ f ≡ c ++ y ∷ g
    → ((b ≡ c) × (x ≡ y)) ⊎ (((more : List X) × (b ≡ c ++ y ∷ more) × (g ≡ more ++ x ∷ f)) ⊎ ((more : List X) × (c ≡ b ++ x ∷ more) × (f ≡ more ++ y ∷ g)))
splits [] [] x y f g e = inl (refl, cc)
splits [] (d ∷ c) x y f g e =
    let head : d ≡ x = cc in
    let tail : f ≡ c ++ y ∷ g = cc in
    inr (inr (c, ap (λ w. w ∷ c) head, tail))
splits (d ∷ b) [] x y f g e =
    let head : d ≡ y = cc in
    let tail : g ≡ b ++ x ∷ f = cc in
    inr (inl (b, ap (λ w. w ∷ b) head, tail))
splits (d ∷ b) (d' ∷ c) x y f g e =
    let head : d ≡ d' = cc in
    let tail : b ++ x ∷ f ≡ c ++ y ∷ g = cc in
    elim (splits b c x y f g tail) [
      | inl (same, is) ↦ inl (ap (λ w. d ∷ w) same ∙ ap (λ w. w ∷ c) head, is)
      | inr (inl (more, longer, rest)) ↦ inr (inl (more, ap (λ w. d ∷ w) longer ∙ ap (λ w. w ∷ (c ++ y ∷ more)) head, rest))
      | inr (inr (more, longer, rest)) ↦ inr (inr (more, ap (λ w. d' ∷ w) longer ∙ ap (λ w. w ∷ (b ++ x ∷ more)) (sym head), rest))
    ]

-- Before the later of two places a receipt has the key that is said at the earlier.
earlier_has : (b c : List Entry) (x : Entry) (k : List ℕ) (q : Content) (f g more : List Entry) (n : ℕ) → ((d : Content) → x ≡ Queued d → ⊥) → b ≡ c ++ Key k ∷ more → Queued q ∷ g ≡ more ++ x ∷ f
    → n ≡ last_number c + 1 → TakenWithKey b k n
earlier_has b c x k q f g [] n other longer rest number = absurd (other q (let same : Queued q ≡ x = cc in sym same))
earlier_has b c x k q f g (e ∷ more) n other longer rest number =
    let head : e ≡ Queued q = cc in
    record { before = c; content = q; following = more; entries_are = longer ∙ ap (λ w. c ++ Key k ∷ w ∷ more) head; number_is = number }

came_before : (b : List Entry) (es : List Entry) (k : List ℕ) (n : ℕ) (h : CameWithKey es k n) (more : List Entry) → b ≡ h.before ++ Earlier n k ∷ more → CameWithKey b k n
came_before b es k n h more longer = record { before = h.before; following = more; entries_are = longer; from_one = h.from_one; older = h.older }

not_queued : (k : List ℕ) (d : Content) → Key k ≡ Queued d → ⊥
not_queued k d is = cc

earlier_not_queued : (n : ℕ) (k : List ℕ) (d : Content) → Earlier n k ≡ Queued d → ⊥
earlier_not_queued n k d is = cc

-- A receipt that was taken here has a number above those of the older ledger, whose receipts have the others.
taken_within : (es : List Entry) (k : List ℕ) (n : ℕ) → TakenWithKey es k n → (earlier es < n) × (n ≤ last_number es)
taken_within es k n h =
    let rest : List Entry = Key k ∷ Queued h.content ∷ h.following in
    let parts : contents es ≡ contents h.before ++ (h.content ∷ contents h.following) = ap contents h.entries_are ∙ filter_map-append content_of h.before rest in
    let longer : length (contents es) ≡ length (contents h.before) + suc (length (contents h.following)) = ap length parts ∙ length-append (contents h.before) (h.content ∷ contents h.following) in
    let older : earlier es ≡ earlier h.before = ap earlier h.entries_are ∙ first_of_more h.before in
    (omega (arith, h.number_is, older), omega (arith, h.number_is, longer, older))
  where
    first_of_more : (before : List Entry) → earlier (before ++ Key k ∷ Queued h.content ∷ h.following) ≡ earlier before
    first_of_more [] = refl
    first_of_more (e ∷ before) = refl

came_within : (es : List Entry) (k : List ℕ) (n : ℕ) → CameWithKey es k n → (0 < n) × (n ≤ earlier es)
came_within es k n h =
    let older : earlier h.before ≤ earlier es = subst (λ v. earlier h.before ≤ earlier v) (sym h.entries_are) (earlier_grows h.before (Earlier n k ∷ h.following)) in
    (h.from_one, omega (arith, h.older, older))

pub key_taken : (es : List Entry) (k : List ℕ) (n : ℕ) → HasKey es k n → (0 < n) × (n ≤ last_number es)
key_taken es k n has = elim has.said [
  | inl h ↦ let within = taken_within es k n h in (omega (arith, within.0), within.1)
  | inr h ↦ let within = came_within es k n h in (within.0, omega (arith, within.1))
]

never_later : (es b : List Entry) (k : List ℕ) (m n : ℕ) → m ≡ last_number b + 1 → TakenWithKey b k n → m ≢ n
never_later es b k m n is h same = absurd (omega (arith, is, (taken_within b k n h).1, same))

-- A receipt that was taken here and one of the older ledger don't have the same key.
never_both : (es : List Entry) (k : List ℕ) (m n : ℕ) → IsLedger es → TakenWithKey es k m → CameWithKey es k n → ⊥
never_both es k m n ledger h g =
    elim (splits h.before g.before (Key k) (Earlier n k) (Queued h.content ∷ h.following) g.following (sym h.entries_are ∙ g.entries_are)) [
      | inl (same, is) ↦ let bad : Key k ≡ Earlier n k = is in cc
      | inr (inl (more, longer, rest)) ↦
          ledger h.before (Key k) (Queued h.content ∷ h.following) h.entries_are n (has_older h.before k n (came_before h.before es k n g more longer))
      | inr (inr (more, longer, rest)) ↦
          (ledger g.before (Earlier n k) g.following g.entries_are).2 m
          (has_here g.before k m (earlier_has g.before h.before (Earlier n k) k h.content g.following h.following more m (earlier_not_queued n k) longer rest h.number_is))
    ]

one_of_both : (es : List Entry) (k : List ℕ) (m n : ℕ) → IsLedger es → TakenWithKey es k m ⊎ CameWithKey es k m → TakenWithKey es k n ⊎ CameWithKey es k n → m ≡ n
one_of_both es k m n ledger (inl h) (inl g) =
    elim (splits h.before g.before (Key k) (Key k) (Queued h.content ∷ h.following) (Queued g.content ∷ g.following) (sym h.entries_are ∙ g.entries_are)) [
      | inl (same, is) ↦ h.number_is ∙ ap (λ b. last_number b + 1) same ∙ sym g.number_is
      | inr (inl (more, longer, rest)) ↦
          absurd (ledger h.before (Key k) (Queued h.content ∷ h.following) h.entries_are n
          (has_here h.before k n (earlier_has h.before g.before (Key k) k g.content (Queued h.content ∷ h.following) g.following more n (not_queued k) longer rest g.number_is)))
      | inr (inr (more, longer, rest)) ↦
          absurd (ledger g.before (Key k) (Queued g.content ∷ g.following) g.entries_are m
          (has_here g.before k m (earlier_has g.before h.before (Key k) k h.content (Queued g.content ∷ g.following) h.following more m (not_queued k) longer rest h.number_is)))
    ]
one_of_both es k m n ledger (inl h) (inr g) = absurd (never_both es k m n ledger h g)
one_of_both es k m n ledger (inr h) (inl g) = absurd (never_both es k n m ledger g h)
one_of_both es k m n ledger (inr h) (inr g) =
    elim (splits h.before g.before (Earlier m k) (Earlier n k) h.following g.following (sym h.entries_are ∙ g.entries_are)) [
      | inl (same, is) ↦ cc is
      | inr (inl (more, longer, rest)) ↦ absurd ((ledger h.before (Earlier m k) h.following h.entries_are).2 n (has_older h.before k n (came_before h.before es k n g more longer)))
      | inr (inr (more, longer, rest)) ↦ absurd ((ledger g.before (Earlier n k) g.following g.entries_are).2 m (has_older g.before k m (came_before g.before es k m h more longer)))
    ]

pub one_receipt : (es : List Entry) (k : List ℕ) (m n : ℕ) → IsLedger es → HasKey es k m → HasKey es k n → m ≡ n
one_receipt es k m n ledger h g = one_of_both es k m n ledger h.said g.said

one_key_of_both : (es : List Entry) (j k : List ℕ) (n : ℕ) → IsLedger es → TakenWithKey es j n ⊎ CameWithKey es j n → TakenWithKey es k n ⊎ CameWithKey es k n → j ≡ k
one_key_of_both es j k n ledger (inl h) (inl g) =
    elim (splits h.before g.before (Key j) (Key k) (Queued h.content ∷ h.following) (Queued g.content ∷ g.following) (sym h.entries_are ∙ g.entries_are)) [
      | inl (same, is) ↦ cc
      | inr (inl (more, longer, rest)) ↦
          absurd (never_later es h.before k n n h.number_is
          (earlier_has h.before g.before (Key j) k g.content (Queued h.content ∷ h.following) g.following more n (not_queued j) longer rest g.number_is) refl)
      | inr (inr (more, longer, rest)) ↦
          absurd (never_later es g.before j n n g.number_is
          (earlier_has g.before h.before (Key k) j h.content (Queued g.content ∷ g.following) h.following more n (not_queued k) longer rest h.number_is) refl)
    ]
one_key_of_both es j k n ledger (inl h) (inr g) = absurd (omega (arith, (taken_within es j n h).0, (came_within es k n g).1))
one_key_of_both es j k n ledger (inr h) (inl g) = absurd (omega (arith, (taken_within es k n g).0, (came_within es j n h).1))
one_key_of_both es j k n ledger (inr h) (inr g) =
    elim (splits h.before g.before (Earlier n j) (Earlier n k) h.following g.following (sym h.entries_are ∙ g.entries_are)) [
      | inl (same, is) ↦ cc is
      | inr (inl (more, longer, rest)) ↦ absurd ((ledger h.before (Earlier n j) h.following h.entries_are).3 k (has_older h.before k n (came_before h.before es k n g more longer)))
      | inr (inr (more, longer, rest)) ↦ absurd ((ledger g.before (Earlier n k) g.following g.entries_are).3 j (has_older g.before j n (came_before g.before es j n h more longer)))
    ]

pub one_key : (es : List Entry) (j k : List ℕ) (n : ℕ) → IsLedger es → HasKey es j n → HasKey es k n → j ≡ k
one_key es j k n ledger h g = one_key_of_both es j k n ledger h.said g.said
