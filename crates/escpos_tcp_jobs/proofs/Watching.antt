-- What happens to a watched link, one thing after another, happens to it as a whole.
use Rattle.std.proofs.Common.{◌≡◌, ◌∙◌, ◌+◌, ℕ, Bool, true, false, IsTrue, List, [], ◌∷◌, ◌++◌, length, take, Option, Some, None, refl, sym, ap, subst, append_assoc, append-nil, length-append, take_all, arith}
use lib.Seq.{take-append-add}
use Rattle.std.proofs.lemmas.List.{take-append-le}
use Rattle.std.proofs.lemmas.Grind.{flat_map-append}
use Rattle.std.proofs.KnownBytes.{Appends-nil, Appends-trans, Consumes-nil, Consumes-trans}
use Rattle.std.specs.Prelude.{option_to_list, slice_get, drop}
use Rattle.std.specs.List.{flat_map}
use Rattle.std.specs.Io.KnownBytes.{Appends, Consumes}
use Rattle.escpos_command.specs.declared.answer.Answer.{Answer}
use Rattle.escpos_command.specs.Answers.{answer_bytes, spell_answers}
use Rattle.escpos_paper.specs.declared.item.Item.{Item}
use Rattle.escpos_paper.specs.ItemsText.{item_text, items_text}
use Rattle.escpos_printer.specs.declared.condition.Condition.{Condition}
use Rattle.escpos_printer.specs.declared.printer.FeedStop.{FeedStop}
use Rattle.escpos_printer.specs.Feeds.{Feeds, PrinterView}
use Rattle.escpos_printer.specs.LinkInParts.{under}
use Rattle.escpos_printer.specs.Replies.{is_offline}
use Rattle.escpos_tcp_jobs.specs.Watched.{Happening, said, offered, gone, Happens, Happened, said_by, taken_by, gone_by, Says, SinkView, Sends, WatchView, Watches, answered, told, watch_view}
use Rattle.escpos_tcp_jobs.specs.declared.watch.Progress.{Progress}

-- ---- one thing after another

pub happened_both : (xs ys : List Happening) (p m q : PrinterView) (a b : List Answer) → Happened p xs a m → Happened m ys b q → Happened p (xs ++ ys) (a ++ b) q
happened_both [] ys p m q a b h k =
    subst (λ v. Happened v ys (a ++ b) q) h.1 (subst (λ v. Happened m ys (v ++ b) q) (sym h.0) k)
happened_both (x ∷ xs) ys p m q a b (first, rest, between, step, more, e) k = (
  first,
  rest ++ b,
  between,
  step,
  happened_both xs ys between m q rest b more k,
  ap (λ v. v ++ b) e ∙ append_assoc first rest b,
)

pub happened_one : (x : Happening) (p q : PrinterView) (a : List Answer) → Happens p x a q → Happened p (x ∷ []) a q
happened_one x p q a step = (a, [], q, step, (refl, refl), sym (append-nil a))

-- ---- what sensors say

pub says_none : (a : Option (List Condition)) → Says a a []
says_none None = tt
says_none (Some x) = refl

pub says_both : (a b c : Option (List Condition)) (xs ys : List Condition) → Says a b xs → Says b c ys → Says a c (xs ++ ys)
says_both None b c xs ys p q = tt
says_both (Some x) None c xs ys p q = absurd p
says_both (Some x) (Some y) None xs ys p q = absurd q
says_both (Some x) (Some y) (Some z) xs ys p q = p ∙ ap (λ l. xs ++ l) q ∙ sym (append_assoc xs ys z)

-- ---- answers that go out

pub sends_none : (s : SinkView) → Sends s s 0 []
sends_none s = record {
  out = Appends-nil s.written;
  within = omega arith;
  whole = λ h. refl;
  none = λ h. refl;
  stays = λ h. h;
}

-- a prefix of one list, and then a prefix of another
take_both : (n m : ℕ) (xs ys : List ℕ) → n ≡ length xs → take (n + m) (xs ++ ys) ≡ take n xs ++ take m ys
take_both n m xs ys e =
    subst (λ k. take (k + m) (xs ++ ys) ≡ take k xs ++ take m ys) (sym e)
    (take-append-add xs ys m ∙ ap (λ l. l ++ take m ys) (sym (take_all (length xs) xs (omega arith))))

joined_out : (a b c : SinkView) (n m : ℕ) (xs ys : List Answer) (failed : Bool) → b.failed ≡ failed → Sends a b n xs → Sends b c m ys
    → take (n + m) (spell_answers (xs ++ ys)) ≡ take n (spell_answers xs) ++ take m (spell_answers ys)
joined_out a b c n m xs ys true e h k =
    let none = k.none (subst (λ v. IsTrue v) (sym e) refl) in
    let within = h.within in
    subst (λ v. take (n + v) (spell_answers (xs ++ ys)) ≡ take n (spell_answers xs) ++ take v (spell_answers ys)) (sym none)
    (ap (λ v. take (n + 0) v) (flat_map-append answer_bytes xs ys)
    ∙ ap (λ v. take v (spell_answers xs ++ spell_answers ys)) (omega arith)
    ∙ take-append-le n (spell_answers xs) (spell_answers ys) within
    ∙ sym (append-nil (take n (spell_answers xs))))
joined_out a b c n m xs ys false e h k =
    let whole = h.whole (λ bad. let no = sym e ∙ bad in absurd cc) in
    ap (take (n + m)) (flat_map-append answer_bytes xs ys) ∙ take_both n m (spell_answers xs) (spell_answers ys) whole

pub sends_both : (a b c : SinkView) (n m : ℕ) (xs ys : List Answer) → Sends a b n xs → Sends b c m ys → Sends a c (n + m) (xs ++ ys)
sends_both a b c n m xs ys h k =
    let all = ap length (flat_map-append answer_bytes xs ys) ∙ length-append (spell_answers xs) (spell_answers ys) in
    let first = h.within in
    let second = k.within in
    record {
      out =
          subst (Appends a.written c.written) (sym (joined_out a b c n m xs ys b.failed refl h k))
          (Appends-trans a.written b.written c.written (take n (spell_answers xs)) (take m (spell_answers ys)) h.out k.out);
      within = omega (arith, all, first, second);
      whole = λ well.
          let one = h.whole (λ bad. well (k.stays bad)) in
          let two = k.whole well in
          omega (arith, all, one, two);
      none = λ bad.
          let one = h.none bad in
          let two = k.none (h.stays bad) in
          omega (arith, one, two);
      stays = λ bad. k.stays (h.stays bad);
    }

-- ---- a link

taken_both : (x y z came more fed on : List ℕ) → x ++ came ≡ fed ++ y → y ++ more ≡ on ++ z → x ++ (came ++ more) ≡ (fed ++ on) ++ z
taken_both x y z came more fed on h k =
    sym (append_assoc x came more) ∙ ap (λ l. l ++ more) h ∙ append_assoc fed y more ∙ ap (λ l. fed ++ l) k ∙ sym (append_assoc fed on z)

pub watches_both : (a b c : WatchView) → Watches a b → Watches b c → Watches a c
watches_both a b c h k =
    let first = h.read in
    let second = k.read in
    let long = length-append h.came k.came in
    let some = h.written in
    let more = k.written in
    record {
      happened = h.happened ++ k.happened;
      came = h.came ++ k.came;
      answers = h.answers ++ k.answers;
      goes = happened_both h.happened k.happened a.printer b.printer c.printer h.answers k.answers h.goes k.goes;
      comes = Consumes-trans a.to_come b.to_come c.to_come h.came k.came h.comes k.comes;
      read = omega (arith, first, second, long);
      taken =
          taken_both (option_to_list a.progress.held) (option_to_list b.progress.held) (option_to_list c.progress.held) h.came k.came
          (flat_map taken_by h.happened) (flat_map taken_by k.happened) h.taken k.taken
          ∙ ap (λ l. l ++ option_to_list c.progress.held) (sym (flat_map-append taken_by h.happened k.happened));
      says =
          subst (Says a.to_say c.to_say) (sym (flat_map-append said_by h.happened k.happened))
          (says_both a.to_say b.to_say c.to_say (flat_map said_by h.happened) (flat_map said_by k.happened) h.says k.says);
      text =
          k.text ∙ ap (λ l. l ++ items_text (flat_map gone_by k.happened)) h.text
          ∙ append_assoc a.paper (items_text (flat_map gone_by h.happened)) (items_text (flat_map gone_by k.happened))
          ∙ ap (λ l. a.paper ++ l)
          (sym (flat_map-append item_text (flat_map gone_by h.happened) (flat_map gone_by k.happened))
          ∙ ap items_text (sym (flat_map-append gone_by h.happened k.happened)));
      sent = h.sent + k.sent;
      sends = sends_both a.sink b.sink c.sink h.sent k.sent h.answers k.answers h.sends k.sends;
      written = omega (arith, some, more);
    }

-- nothing has happened
pub watches_none : (a : WatchView) → Watches a a
watches_none a = record {
  happened = [];
  came = [];
  answers = [];
  goes = (refl, refl);
  comes = Consumes-nil a.to_come;
  read = omega arith;
  taken = append-nil (option_to_list a.progress.held);
  says = says_none a.to_say;
  text = sym (append-nil a.paper);
  sent = 0;
  sends = sends_none a.sink;
  written = omega arith;
}

-- ---- one step of a link

-- some bytes came, and are held
pub watches_came : (p : PrinterView) (s : SinkView) (c : Option (List Condition)) (text : List ℕ) (r rest : Option (List ℕ)) (came : List ℕ) (before after : Progress)
    → Consumes r rest came → after.read ≡ before.read + length came → after.written ≡ before.written → option_to_list before.held ++ came ≡ option_to_list after.held
    → Watches (watch_view p r s c text before) (watch_view p rest s c text after)
watches_came p s c text r rest came before after comes read written held = record {
  happened = [];
  came = came;
  answers = [];
  goes = (refl, refl);
  comes = comes;
  read = read;
  taken = held;
  says = says_none c;
  text = sym (append-nil text);
  sent = 0;
  sends = sends_none s;
  written = omega (arith, written);
}

pub nothing_came : (p : PrinterView) (s : SinkView) (c : Option (List Condition)) (text : List ℕ) (r rest : Option (List ℕ)) (progress : Progress)
    → Consumes r rest [] → Watches (watch_view p r s c text progress) (watch_view p rest s c text progress)
nothing_came p s c text r rest progress comes =
    watches_came p s c text r rest [] progress progress comes (omega arith) refl (append-nil (option_to_list progress.held))

-- an answer that is taken stands before the others
pub taken_first : (answers : List Answer) (x : Answer) → Some x ≡ slice_get answers 0 → answers ≡ x ∷ drop 1 answers
taken_first [] x e = absurd cc
taken_first (y ∷ answers) x e = let same : x ≡ y = cc in ap (λ v. v ∷ answers) (sym same)

-- the answers of all that don't wait any more went out
abbrev pub SentSoFar : SinkView → SinkView → ℕ → List Answer → List Answer → Type 0
SentSoFar a b n all waiting = (done : List Answer) × (all ≡ done ++ waiting) × Sends a b n done

pub sent_none : (s : SinkView) (all : List Answer) → SentSoFar s s 0 all all
sent_none s all = ([], refl, sends_none s)

pub sent_all : (a b : SinkView) (n : ℕ) (all waiting : List Answer) → SentSoFar a b n all waiting → waiting ≡ [] → Sends a b n all
sent_all a b n all waiting (done, e, h) none =
    subst (Sends a b n) (sym (e ∙ ap (λ l. done ++ l) none ∙ append-nil done)) h

-- the first answer that waits went out
pub sent_next : (a b c : SinkView) (n m : ℕ) (all waiting : List Answer) (x : Answer) → Some x ≡ slice_get waiting 0
    → SentSoFar a b n all waiting → Sends b c m (x ∷ []) → SentSoFar a c (n + m) all (drop 1 waiting)
sent_next a b c n m all waiting x is (done, e, h) k = (
  done ++ x ∷ [],
  e ∙ ap (λ l. done ++ l) (taken_first waiting x is) ∙ sym (append_assoc done (x ∷ []) (drop 1 waiting)),
  sends_both a b c n m done (x ∷ []) h k,
)

-- the sensors said this, and the answers that wait went out
pub watches_said : (p : PrinterView) (a b : SinkView) (c d : Option (List Condition)) (now : Condition) (r : Option (List ℕ)) (text : List ℕ) (sent : ℕ) (before after : Progress)
    → Says c d (now ∷ []) → Sends a b sent (told now p).waiting → after.read ≡ before.read → after.held ≡ before.held → after.written ≡ before.written + sent
    → Watches (watch_view p r a c text before) (watch_view (answered (told now p)) r b d text after)
watches_said p a b c d now r text sent before after says sends read held written = record {
  happened = said now ∷ [];
  came = [];
  answers = (told now p).waiting;
  goes = happened_one (said now) p (answered (told now p)) (told now p).waiting (refl, refl);
  comes = Consumes-nil r;
  read = omega (arith, read);
  taken = append-nil (option_to_list before.held) ∙ ap option_to_list (sym held);
  says = says;
  text = sym (append-nil text);
  sent = sent;
  sends = sends;
  written = written;
}

-- a byte that is held was offered
pub watches_offered : (p fed : PrinterView) (a b : SinkView) (c : Option (List Condition)) (r : Option (List ℕ)) (text : List ℕ) (byte k : ℕ) (stop : FeedStop) (sent : ℕ)
    (before after : Progress) → is_offline p.condition ≡ false → Feeds p (byte ∷ []) k stop fed → Sends a b sent fed.waiting → after.read ≡ before.read
    → option_to_list before.held ≡ take k (byte ∷ []) ++ option_to_list after.held → after.written ≡ before.written + sent
    → Watches (watch_view p r a c text before) (watch_view (answered fed) r b c text after)
watches_offered p fed a b c r text byte k stop sent before after online feeds sends read held written = record {
  happened = offered byte k stop ∷ [];
  came = [];
  answers = fed.waiting;
  goes = happened_one (offered byte k stop) p (answered fed) fed.waiting (online, (fed, feeds, refl, refl));
  comes = Consumes-nil r;
  read = omega (arith, read);
  taken = append-nil (option_to_list before.held) ∙ held ∙ ap (λ l. l ++ option_to_list after.held) (sym (append-nil (take k (byte ∷ []))));
  says = says_none c;
  text = sym (append-nil text);
  sent = sent;
  sends = sends;
  written = written;
}

-- what is on the paper was torn off
pub watches_gone : (items : List Item) (p q : PrinterView) (s : SinkView) (c : Option (List Condition)) (r : Option (List ℕ)) (text more : List ℕ) (progress : Progress)
    → p ≡ under items q → more ≡ text ++ items_text items → Watches (watch_view p r s c text progress) (watch_view q r s c more progress)
watches_gone items p q s c r text more progress is e = record {
  happened = gone items ∷ [];
  came = [];
  answers = [];
  goes = happened_one (gone items) p q [] (refl, is);
  comes = Consumes-nil r;
  read = omega arith;
  taken = append-nil (option_to_list progress.held);
  says = says_none c;
  text = e ∙ ap (λ l. text ++ items_text l) (sym (append-nil items));
  sent = 0;
  sends = sends_none s;
  written = omega arith;
}
