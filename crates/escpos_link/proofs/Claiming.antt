-- Standing: a receipt whose closing mark is answered stands on the paper, after all receipts that are recorded or were sent
-- before it.
--
-- The host puts an Init before each receipt and its closing mark after it, and the printer runs commands in the order in
-- which they were put. What was printed before an Init doesn't matter to what is printed after it: from there on the
-- receipt's commands print what they print on a printer just switched on. So when they have been run, exactly those items
-- are on the paper, after the items of the receipts before it; and a closing mark that is run comes after all of them.
-- Nothing removes an item, so what stands stays. A closing mark is answered only after it was run, and each has an id
-- that no other mark has which may still be answered. The answers come in the order of the marks, so the one to the oldest receipt in flight
-- comes first, and the receipts that the host records are just those that stand, in order.
use Rattle.std.proofs.Common.{◌≡◌, ◌⊎◌, ◌<◌, ◌≤◌, ◌+◌, inl, inr, ℕ, List, [], ◌∷◌, ◌++◌, refl, sym, ◌∙◌, ap, subst, arith, append-nil, append_assoc}
use Rattle.std.proofs.lemmas.List.{append_cancel_right}
use Rattle.std.specs.List.{AllByRecursion}
use Rattle.escpos_command.specs.declared.command.Command.{Command}
use Rattle.escpos_command.specs.declared.command.Command.TheVariants as kind
use Rattle.escpos_host.specs.Counted.{id_of}
use Rattle.escpos_command.specs.Marks.{marks}
use Rattle.escpos_paper.specs.declared.item.Item.{Item}
use Rattle.escpos_paper.specs.Printed.{printed}
use Rattle.escpos_host.specs.Heard.{IsClosing}
use Rattle.escpos_host.specs.Machine.{InFlight, receipts_of}
use Rattle.escpos_link.specs.Stands.{Stands}
use Rattle.escpos_link.specs.Ways.{AreApart, Course, InOrder, Owed, Printing, Rising, Row, Stood, closing_marks, sends}
use Rattle.escpos_link.proofs.Aligning.{head_same, marks_append, tail_same}
use Rattle.escpos_link.proofs.Numbers.{OfNumbers, not_closing, rising_add, rising_more, rising_row, rising_within, row_from, row_front, row_join, row_within}
use Rattle.escpos_link.proofs.Standing.{stands_add, stands_front, stands_more}

-- What the layers below say of paper.
pub record OfPaper : Type 0 where
  pub init : (width : ℕ) (a b : List Command) → printed width (a ++ kind.Init ∷ [] ++ b) ≡ printed width a ++ printed width b
  pub grows : (width : ℕ) (a b : List Command) → (more : List Item) × (printed width (a ++ b) ≡ printed width a ++ more)

closing_append : (a b : List InFlight) → closing_marks (a ++ b) ≡ closing_marks a ++ closing_marks b
closing_append [] b = refl
closing_append (p ∷ a) b = ap (λ v. p.mark ∷ v) (closing_append a b)

receipts_append : (a b : List InFlight) → receipts_of (a ++ b) ≡ receipts_of a ++ receipts_of b
receipts_append [] b = refl
receipts_append (p ∷ a) b = ap (λ v. p.receipt ∷ v) (receipts_append a b)

sends_append : (a b : List InFlight) → sends (a ++ b) ≡ sends a ++ sends b
sends_append [] b = refl
sends_append (p ∷ a) b =
    ap (λ v. kind.Init ∷ (p.receipt ++ (kind.Mark p.mark ∷ v))) (sends_append a b)
    ∙ ap (λ v. kind.Init ∷ v) (sym (append_assoc p.receipt (kind.Mark p.mark ∷ sends a) (sends b)))

abbrev Unmarked : List InFlight → Type 0
Unmarked todo = AllByRecursion (λ (p : InFlight). marks p.receipt ≡ []) todo

unmarked_add : (todo : List InFlight) (p : InFlight) → Unmarked todo → marks p.receipt ≡ [] → Unmarked (todo ++ p ∷ [])
unmarked_add [] p u none = (none, tt)
unmarked_add (q ∷ todo) p u none = (u.0, unmarked_add todo p u.1 none)

marks_sends : (todo : List InFlight) → Unmarked todo → marks (sends todo) ≡ closing_marks todo
marks_sends [] u = refl
marks_sends (p ∷ ps) u =
    marks_append p.receipt (kind.Mark p.mark ∷ sends ps) ∙ ap (λ v. v ++ (p.mark ∷ marks (sends ps))) u.0 ∙ ap (λ v. p.mark ∷ v) (marks_sends ps u.1)

-- ## A prefix of the marks that are to be heard

record Front (heard base : ℕ) (done : List InFlight) (xs : List (List ℕ)) : Type 0 where
  old : List (List ℕ)
  first : List InFlight
  more : List InFlight
  known : Row heard base old
  front_is : xs ≡ old ++ closing_marks first
  done_is : done ≡ first ++ more

front_done : (base : ℕ) (xs ys : List (List ℕ)) (done : List InFlight) → xs ++ ys ≡ closing_marks done
    → (first : List InFlight) × (more : List InFlight) × (xs ≡ closing_marks first) × (done ≡ first ++ more)
front_done base [] ys done e = ([], done, refl, refl)
front_done base (x ∷ xs) ys [] e = absurd cc
front_done base (x ∷ xs) ys (d ∷ done) e =
    let r = front_done base xs ys done (tail_same x d.mark (xs ++ ys) (closing_marks done) e) in (
      d ∷ r.0,
      r.1,
      ap (λ v. v ∷ xs) (head_same x d.mark (xs ++ ys) (closing_marks done) e) ∙ ap (λ v. d.mark ∷ v) r.2,
      ap (λ v. d ∷ v) r.3,
    )

front_queue : (heard base : ℕ) (old : List (List ℕ)) (done : List InFlight) (xs ys : List (List ℕ)) → Row heard base old → xs ++ ys ≡ old ++ closing_marks done → Front heard base done xs
front_queue heard base [] done xs ys k e =
    let r = front_done base xs ys done e in record { old = []; first = r.0; more = r.1; known = k; front_is = r.2; done_is = r.3 }
front_queue heard base (o ∷ old) done [] ys k e =
    record { old = []; first = []; more = done; known = row_within heard base (o ∷ old) k; front_is = refl; done_is = refl }
front_queue heard base (o ∷ old) done (x ∷ xs) ys (n, least, is, k) e =
    let r = front_queue (n + 1) base old done xs ys k (tail_same x o (xs ++ ys) (old ++ closing_marks done) e) in
    record {
      old = x ∷ r.old;
      first = r.first;
      more = r.more;
      known = (n, least, is ∙ sym (head_same x o (xs ++ ys) (old ++ closing_marks done) e), r.known);
      front_is = ap (λ v. x ∷ v) r.front_is;
      done_is = r.done_is;
    }

pub owed_front : (width heard : ℕ) (records : List (List Command)) (flight : List InFlight) (next : ℕ) (items : List Item) (xs ys : List (List ℕ))
    → Owed width heard records flight next items (xs ++ ys) → Owed width heard records flight next items xs
owed_front width heard records flight next items xs ys w =
    let f = front_queue heard w.order.base w.order.old w.done xs ys w.order.known w.order.queue_is in
    let split : w.done ++ w.todo ≡ f.first ++ (f.more ++ w.todo) = ap (λ v. v ++ w.todo) f.done_is ∙ append_assoc f.first f.more w.todo in
    let all : records ++ receipts_of w.done ≡ (records ++ receipts_of f.first) ++ receipts_of f.more =
    ap (λ v. records ++ v) (ap receipts_of f.done_is ∙ receipts_append f.first f.more) ∙ sym (append_assoc records (receipts_of f.first) (receipts_of f.more)) in
    record {
      done = f.first;
      todo = f.more ++ w.todo;
      flight_is = w.flight_is ∙ split;
      order = record {
        old = f.old;
        base = w.order.base;
        known = f.known;
        rising = subst (λ v. Rising w.order.base v next) split w.order.rising;
        queue_is = f.front_is;
      };
      stands = stands_front width (records ++ receipts_of f.first) (receipts_of f.more) items (subst (λ v. Stands width v items) all w.stands);
    }

-- ## What a course gives when nothing of it is run any more

printed_so : (width : ℕ) → OfPaper → (kept : List Item) (first run ran : List Command) → ran ≡ first ++ kind.Init ∷ [] ++ run
    → (kept ++ printed width first) ++ printed width run ≡ kept ++ printed width ran
printed_so width paper kept first run ran is =
    append_assoc kept (printed width first) (printed width run) ∙ ap (λ v. kept ++ v) (sym (paper.init width first run) ∙ ap (printed width) (sym is))

marks_last : (left : List Command) (id : List ℕ) (rest : List Command) → rest ≡ left ++ kind.Mark id ∷ [] → marks rest ≡ marks left ++ id ∷ []
marks_last left id rest is = ap marks is ∙ marks_append left (kind.Mark id ∷ [])

settles : (width heard : ℕ) → OfPaper → (records : List (List Command)) (flight done todo : List InFlight) (next : ℕ) (kept : List Item) (ran : List Command) (pending : List (List ℕ))
    (rest : List Command) → flight ≡ done ++ todo → InOrder heard done todo next (pending ++ marks rest) → Stood width records done rest kept ran
    → (tail : List (List ℕ)) × Owed width heard records flight next (kept ++ printed width ran) (pending ++ tail)
settles width heard paper records flight done todo next kept ran pending rest is order (inl s) =
    (marks rest, record { done = done; todo = todo; flight_is = is; order = order; stands = s })
settles width heard paper records flight done todo next kept ran pending rest is order (inr p) =
    let split : done ++ todo ≡ p.before ++ (p.current ∷ todo) = ap (λ v. v ++ todo) p.done_is ∙ append_assoc p.before (p.current ∷ []) todo in
    let id = p.current.mark in
    let long : (pending ++ marks p.to_run) ++ id ∷ [] ≡ (order.old ++ closing_marks p.before) ++ id ∷ [] =
    append_assoc pending (marks p.to_run) (id ∷ []) ∙ ap (λ v. pending ++ v) (sym (marks_last p.to_run id rest p.rest_is)) ∙ order.queue_is
    ∙ ap (λ v. order.old ++ v) (ap closing_marks p.done_is ∙ closing_append p.before (p.current ∷ [])) ∙ sym (append_assoc order.old (closing_marks p.before) (id ∷ [])) in (
      marks p.to_run,
      record {
        done = p.before;
        todo = p.current ∷ todo;
        flight_is = is ∙ split;
        order = record {
          old = order.old;
          base = order.base;
          known = order.known;
          rising = subst (λ v. Rising order.base v next) split order.rising;
          queue_is = append_cancel_right (pending ++ marks p.to_run) (order.old ++ closing_marks p.before) (id ∷ []) long;
        };
        stands = subst (λ v. Stands width (records ++ receipts_of p.before) v) (printed_so width paper kept p.first p.run ran p.ran_is)
            (stands_more width (records ++ receipts_of p.before) (kept ++ printed width p.first) (printed width p.run) p.stands);
      },
    )

pub course_owed : (width heard : ℕ) → OfPaper → (records : List (List Command)) (flight : List InFlight) (next : ℕ) (kept : List Item) (ran : List Command) (xs ys : List (List ℕ))
    (due : List Command) → Course width heard records flight next kept ran (xs ++ ys) due → Owed width heard records flight next (kept ++ printed width ran) xs
course_owed width heard paper records flight next kept ran xs ys due c =
    let s = settles width heard paper records flight c.done c.todo next kept ran (xs ++ ys) c.rest c.flight_is c.order c.stood in
    owed_front width heard records flight next (kept ++ printed width ran) xs (ys ++ s.0)
    (subst (λ v. Owed width heard records flight next (kept ++ printed width ran) v) (append_assoc xs ys s.0) s.1)

pub owed_stands : (width heard : ℕ) (records : List (List Command)) (flight : List InFlight) (next : ℕ) (items : List Item) (pending : List (List ℕ))
    → Owed width heard records flight next items pending → Stands width records items
owed_stands width heard records flight next items pending w = stands_front width records (receipts_of w.done) items w.stands

pub course_stands : (width heard : ℕ) → OfPaper → (records : List (List Command)) (flight : List InFlight) (next : ℕ) (kept : List Item) (ran : List Command) (pending : List (List ℕ))
    (due : List Command) → Course width heard records flight next kept ran pending due → Stands width records (kept ++ printed width ran)
course_stands width heard paper records flight next kept ran pending due c =
    let s = settles width heard paper records flight c.done c.todo next kept ran pending c.rest c.flight_is c.order c.stood in
    owed_stands width heard records flight next (kept ++ printed width ran) (pending ++ s.0) s.1

order_known : (heard : ℕ) (done todo : List InFlight) (next : ℕ) (queue : List (List ℕ)) → InOrder heard done todo next queue → Row heard next (queue ++ closing_marks todo)
order_known heard done todo next queue o =
    let all : queue ++ closing_marks todo ≡ o.old ++ closing_marks (done ++ todo) =
    ap (λ v. v ++ closing_marks todo) o.queue_is ∙ append_assoc o.old (closing_marks done) (closing_marks todo) ∙ ap (λ v. o.old ++ v) (sym (closing_append done todo)) in
    subst (Row heard next) (sym all) (row_join heard o.base next o.old (closing_marks (done ++ todo)) o.known (rising_row o.base next (done ++ todo) o.rising))

pub owed_known : (width heard : ℕ) (records : List (List Command)) (flight : List InFlight) (next : ℕ) (items : List Item) (pending : List (List ℕ))
    → Owed width heard records flight next items pending → Row heard next pending
owed_known width heard records flight next items pending w = row_front heard next pending (closing_marks w.todo) (order_known heard w.done w.todo next pending w.order)

pub course_known : (width heard : ℕ) (records : List (List Command)) (flight : List InFlight) (next : ℕ) (kept : List Item) (ran : List Command) (pending : List (List ℕ))
    (due : List Command) → Course width heard records flight next kept ran pending due → Row heard next (pending ++ marks due)
course_known width heard records flight next kept ran pending due c =
    let of_due : marks due ≡ marks c.rest ++ closing_marks c.todo =
    ap marks c.due_is ∙ marks_append c.rest (sends c.todo) ∙ ap (λ v. marks c.rest ++ v) (marks_sends c.todo c.unmarked) in
    subst (Row heard next) (append_assoc pending (marks c.rest) (closing_marks c.todo) ∙ ap (λ v. pending ++ v) (sym of_due))
    (order_known heard c.done c.todo next (pending ++ marks c.rest) c.order)

-- ## With no receipt in flight

at_rest : (heard next : ℕ) (queue : List (List ℕ)) → Row heard next queue → InOrder heard [] [] next queue
at_rest heard next queue known = record { old = queue; base = next; known = known; rising = omega arith; queue_is = sym (append-nil queue) }

pub rested : (width heard : ℕ) (records : List (List Command)) (next : ℕ) (kept : List Item) (ran : List Command) (pending : List (List ℕ)) (due : List Command)
    → Stands width records (kept ++ printed width ran) → Row heard next (pending ++ marks due) → Course width heard records [] next kept ran pending due
rested width heard records next kept ran pending due s known = record {
  done = [];
  todo = [];
  rest = due;
  flight_is = refl;
  order = at_rest heard next (pending ++ marks due) known;
  due_is = sym (append-nil due);
  unmarked = tt;
  stood = inl (subst (λ v. Stands width v (kept ++ printed width ran)) (sym (append-nil records)) s);
}

pub owed_rested : (width heard : ℕ) (records : List (List Command)) (next : ℕ) (items : List Item) (pending : List (List ℕ)) → Stands width records items → Row heard next pending
    → Owed width heard records [] next items pending
owed_rested width heard records next items pending s known = record {
  done = [];
  todo = [];
  flight_is = refl;
  order = at_rest heard next pending known;
  stands = subst (λ v. Stands width v items) (sym (append-nil records)) s;
}

pub course_more : (width heard : ℕ) → OfPaper → (records : List (List Command)) (flight : List InFlight) (next n : ℕ) (kept : List Item) (ran : List Command) (pending : List (List ℕ))
    (due cs : List Command) → flight ≡ [] → Row next n (marks cs) → Course width heard records flight next kept ran pending due
    → Course width heard records flight n kept ran pending (due ++ cs)
course_more width heard paper records flight next n kept ran pending due cs none known c =
    let before = course_known width heard records flight next kept ran pending due c in
    let all : (pending ++ marks due) ++ marks cs ≡ pending ++ marks (due ++ cs) =
    append_assoc pending (marks due) (marks cs) ∙ ap (λ v. pending ++ v) (sym (marks_append due cs)) in
    subst (λ v. Course width heard records v n kept ran pending (due ++ cs)) (sym none)
    (rested width heard records n kept ran pending (due ++ cs) (course_stands width heard paper records flight next kept ran pending due c)
    (subst (Row heard n) all (row_join heard next n (pending ++ marks due) (marks cs) before known)))

pub owed_more : (width heard : ℕ) (records : List (List Command)) (flight : List InFlight) (next n : ℕ) (items : List Item) (pending : List (List ℕ)) → next ≤ n
    → Owed width heard records flight next items pending → Owed width heard records flight n items pending
owed_more width heard records flight next n items pending more w = record {
  done = w.done;
  todo = w.todo;
  flight_is = w.flight_is;
  order = record {
    old = w.order.old;
    base = w.order.base;
    known = w.order.known;
    rising = rising_more w.order.base next n (w.done ++ w.todo) more w.order.rising;
    queue_is = w.order.queue_is;
  };
  stands = w.stands;
}

-- ## One more receipt

order_add : (heard : ℕ) (done todo : List InFlight) (next : ℕ) (queue : List (List ℕ)) (p : InFlight) → p.number ≡ next → p.mark ≡ id_of next → InOrder heard done todo next queue
    → InOrder heard done (todo ++ p ∷ []) (next + 1) queue
order_add heard done todo next queue p at is o = record {
  old = o.old;
  base = o.base;
  known = o.known;
  rising = subst (λ v. Rising o.base v (next + 1)) (append_assoc done todo (p ∷ [])) (rising_add o.base next (done ++ todo) p at is o.rising);
  queue_is = o.queue_is;
}

pub course_submit : (width heard : ℕ) (records : List (List Command)) (flight : List InFlight) (next : ℕ) (kept : List Item) (ran : List Command) (pending : List (List ℕ))
    (due : List Command) (p : InFlight) → p.number ≡ next → p.mark ≡ id_of next → marks p.receipt ≡ [] → Course width heard records flight next kept ran pending due
    → Course width heard records (flight ++ p ∷ []) (next + 1) kept ran pending (due ++ sends (p ∷ []))
course_submit width heard records flight next kept ran pending due p at is none c = record {
  done = c.done;
  todo = c.todo ++ p ∷ [];
  rest = c.rest;
  flight_is = ap (λ v. v ++ p ∷ []) c.flight_is ∙ append_assoc c.done c.todo (p ∷ []);
  order = order_add heard c.done c.todo next (pending ++ marks c.rest) p at is c.order;
  due_is = ap (λ v. v ++ sends (p ∷ [])) c.due_is ∙ append_assoc c.rest (sends c.todo) (sends (p ∷ [])) ∙ ap (λ v. c.rest ++ v) (sym (sends_append c.todo (p ∷ [])));
  unmarked = unmarked_add c.todo p c.unmarked none;
  stood = c.stood;
}

pub owed_submit : (width heard : ℕ) (records : List (List Command)) (flight : List InFlight) (next : ℕ) (items : List Item) (pending : List (List ℕ)) (p : InFlight)
    → p.number ≡ next → p.mark ≡ id_of next → Owed width heard records flight next items pending → Owed width heard records (flight ++ p ∷ []) (next + 1) items pending
owed_submit width heard records flight next items pending p at is w = record {
  done = w.done;
  todo = w.todo ++ p ∷ [];
  flight_is = ap (λ v. v ++ p ∷ []) w.flight_is ∙ append_assoc w.done w.todo (p ∷ []);
  order = order_add heard w.done w.todo next pending p at is w.order;
  stands = w.stands;
}

-- ## The printer runs a command that is due

pub more_printed : (width : ℕ) → OfPaper → (rs : List (List Command)) (kept : List Item) (ran cs : List Command) → Stands width rs (kept ++ printed width ran) → Stands width rs (kept ++ printed width (ran ++ cs))
more_printed width paper rs kept ran cs s =
    let g = paper.grows width ran cs in
    subst (Stands width rs) (append_assoc kept (printed width ran) g.0 ∙ ap (λ v. kept ++ v) (sym g.1)) (stands_more width rs (kept ++ printed width ran) g.0 s)

-- A receipt that is printed to its end stands.
finished : (width : ℕ) → OfPaper → (records : List (List Command)) (done : List InFlight) (rest : List Command) (kept : List Item) (ran : List Command)
    → (p : Printing width records done rest kept ran) → p.to_run ≡ [] → Stands width (records ++ receipts_of done) (kept ++ printed width ran)
finished width paper records done rest kept ran p none =
    let whole : p.run ≡ p.current.receipt = sym (append-nil p.run) ∙ ap (λ v. p.run ++ v) (sym none) ∙ sym p.receipt_is in
    let all : (records ++ receipts_of p.before) ++ p.current.receipt ∷ [] ≡ records ++ receipts_of done =
    append_assoc records (receipts_of p.before) (p.current.receipt ∷ [])
    ∙ ap (λ v. records ++ v) (sym (receipts_append p.before (p.current ∷ [])) ∙ ap receipts_of (sym p.done_is)) in
    subst (λ v. Stands width v (kept ++ printed width ran)) all
    (subst (Stands width ((records ++ receipts_of p.before) ++ p.current.receipt ∷ []))
    (ap (λ v. (kept ++ printed width p.first) ++ printed width v) (sym whole) ∙ printed_so width paper kept p.first p.run ran p.ran_is)
    (stands_add width (records ++ receipts_of p.before) p.current.receipt (kept ++ printed width p.first) p.stands))

printing_on : (width : ℕ) → OfPaper → (records : List (List Command)) (done : List InFlight) (d : Command) (rest : List Command) (kept : List Item) (ran left : List Command)
    → (p : Printing width records done (d ∷ rest) kept ran) → p.to_run ≡ left → Stood width records done rest kept (ran ++ d ∷ [])
printing_on width paper records done d rest kept ran [] p is =
    inl (more_printed width paper (records ++ receipts_of done) kept ran (d ∷ []) (finished width paper records done (d ∷ rest) kept ran p is))
printing_on width paper records done d rest kept ran (l ∷ left) p is =
    let e : d ∷ rest ≡ l ∷ (left ++ kind.Mark p.current.mark ∷ []) = p.rest_is ∙ ap (λ v. v ++ kind.Mark p.current.mark ∷ []) is in
    let same = head_same d l rest (left ++ kind.Mark p.current.mark ∷ []) e in
    inr (record {
      before = p.before;
      current = p.current;
      first = p.first;
      run = p.run ++ d ∷ [];
      to_run = left;
      done_is = p.done_is;
      ran_is = ap (λ v. v ++ d ∷ []) p.ran_is ∙ append_assoc (p.first ++ kind.Init ∷ []) p.run (d ∷ []);
      receipt_is = p.receipt_is ∙ ap (λ v. p.run ++ v) (is ∙ ap (λ v. v ∷ left) (sym same)) ∙ sym (append_assoc p.run (d ∷ []) left);
      rest_is = tail_same d l rest (left ++ kind.Mark p.current.mark ∷ []) e;
      stands = p.stands;
    })

stood_on : (width : ℕ) → OfPaper → (records : List (List Command)) (done : List InFlight) (d : Command) (rest : List Command) (kept : List Item) (ran : List Command)
    → Stood width records done (d ∷ rest) kept ran → Stood width records done rest kept (ran ++ d ∷ [])
stood_on width paper records done d rest kept ran (inl s) = inl (more_printed width paper (records ++ receipts_of done) kept ran (d ∷ []) s)
stood_on width paper records done d rest kept ran (inr p) = printing_on width paper records done d rest kept ran p.to_run p refl

-- The next command of what was begun.
step_on : (width heard : ℕ) → OfPaper → (records : List (List Command)) (flight done todo : List InFlight) (next : ℕ) (kept : List Item) (ran : List Command) (pending : List (List ℕ))
    (d : Command) (rest due : List Command) → flight ≡ done ++ todo → InOrder heard done todo next (pending ++ marks (d ∷ rest)) → due ≡ rest ++ sends todo → Unmarked todo
    → Stood width records done (d ∷ rest) kept ran → Course width heard records flight next kept (ran ++ d ∷ []) (pending ++ marks (d ∷ [])) due
step_on width heard paper records flight done todo next kept ran pending d rest due is order due_is unmarked stood = record {
  done = done;
  todo = todo;
  rest = rest;
  flight_is = is;
  order = subst (InOrder heard done todo next) (ap (λ v. pending ++ v) (marks_append (d ∷ []) rest) ∙ sym (append_assoc pending (marks (d ∷ [])) (marks rest))) order;
  due_is = due_is;
  unmarked = unmarked;
  stood = stood_on width paper records done d rest kept ran stood;
}

-- The Init of the next receipt.
step_init : (width heard : ℕ) (records : List (List Command)) (flight done todo : List InFlight) (q : InFlight) (next : ℕ) (kept : List Item) (ran : List Command)
    (pending : List (List ℕ)) → flight ≡ done ++ (q ∷ todo) → InOrder heard done (q ∷ todo) next (pending ++ []) → Unmarked (q ∷ todo)
    → Stands width (records ++ receipts_of done) (kept ++ printed width ran)
    → Course width heard records flight next kept (ran ++ kind.Init ∷ []) (pending ++ []) (q.receipt ++ (kind.Mark q.mark ∷ sends todo))
step_init width heard records flight done todo q next kept ran pending is order unmarked s =
    let split : done ++ (q ∷ todo) ≡ (done ++ q ∷ []) ++ todo = sym (append_assoc done (q ∷ []) todo) in
    let mark : marks (q.receipt ++ kind.Mark q.mark ∷ []) ≡ q.mark ∷ [] = marks_append q.receipt (kind.Mark q.mark ∷ []) ∙ ap (λ v. v ++ q.mark ∷ []) unmarked.0 in
    record {
      done = done ++ q ∷ [];
      todo = todo;
      rest = q.receipt ++ kind.Mark q.mark ∷ [];
      flight_is = is ∙ split;
      order = record {
        old = order.old;
        base = order.base;
        known = order.known;
        rising = subst (λ v. Rising order.base v next) split order.rising;
        queue_is = ap (λ v. (pending ++ []) ++ v) mark ∙ ap (λ v. v ++ q.mark ∷ []) order.queue_is ∙ append_assoc order.old (closing_marks done) (q.mark ∷ [])
            ∙ ap (λ v. order.old ++ v) (sym (closing_append done (q ∷ [])));
      };
      due_is = sym (append_assoc q.receipt (kind.Mark q.mark ∷ []) (sends todo));
      unmarked = unmarked.1;
      stood = inr (record {
        before = done;
        current = q;
        first = ran;
        run = [];
        to_run = q.receipt;
        done_is = refl;
        ran_is = sym (append-nil (ran ++ kind.Init ∷ []));
        receipt_is = refl;
        rest_is = refl;
        stands = s;
      });
    }

ends_never : {X : Type 0} (xs : List X) (x : X) → [] ≡ xs ++ x ∷ [] → ⊥
ends_never [] x e = cc e
ends_never (y ∷ xs) x e = cc e

step_at : (width heard : ℕ) → OfPaper → (records : List (List Command)) (flight done todo : List InFlight) (next : ℕ) (kept : List Item) (ran : List Command) (pending : List (List ℕ))
    (c : Command) (rest due : List Command) → flight ≡ done ++ todo → InOrder heard done todo next (pending ++ marks rest) → c ∷ due ≡ rest ++ sends todo → Unmarked todo
    → Stood width records done rest kept ran → Course width heard records flight next kept (ran ++ c ∷ []) (pending ++ marks (c ∷ [])) due
step_at width heard paper records flight done todo next kept ran pending c (d ∷ rest) due is order due_is unmarked stood =
    subst (λ v. Course width heard records flight next kept (ran ++ v ∷ []) (pending ++ marks (v ∷ [])) due) (sym (head_same c d due (rest ++ sends todo) due_is))
    (step_on width heard paper records flight done todo next kept ran pending d rest due is order (tail_same c d due (rest ++ sends todo) due_is) unmarked stood)
step_at width heard paper records flight done [] next kept ran pending c [] due is order due_is unmarked stood = absurd (cc due_is)
step_at width heard paper records flight done (q ∷ todo) next kept ran pending c [] due is order due_is unmarked (inr p) = absurd (ends_never p.to_run (kind.Mark p.current.mark) p.rest_is)
step_at width heard paper records flight done (q ∷ todo) next kept ran pending c [] due is order due_is unmarked (inl s) =
    let after = q.receipt ++ (kind.Mark q.mark ∷ sends todo) in
    subst (λ v. Course width heard records flight next kept (ran ++ v ∷ []) (pending ++ marks (v ∷ [])) due) (sym (head_same c kind.Init due after due_is))
    (subst (λ v. Course width heard records flight next kept (ran ++ kind.Init ∷ []) (pending ++ []) v) (sym (tail_same c kind.Init due after due_is))
    (step_init width heard records flight done todo q next kept ran pending is order unmarked s))

course_step : (width heard : ℕ) → OfPaper → (records : List (List Command)) (flight : List InFlight) (next : ℕ) (kept : List Item) (ran : List Command) (pending : List (List ℕ))
    (c : Command) (due : List Command) → Course width heard records flight next kept ran pending (c ∷ due)
    → Course width heard records flight next kept (ran ++ c ∷ []) (pending ++ marks (c ∷ [])) due
course_step width heard paper records flight next kept ran pending c due course =
    step_at width heard paper records flight course.done course.todo next kept ran pending c course.rest due course.flight_is course.order course.due_is course.unmarked course.stood

pub course_run : (width heard : ℕ) → OfPaper → (records : List (List Command)) (flight : List InFlight) (next : ℕ) (kept : List Item) (ran : List Command) (pending : List (List ℕ))
    (cs due : List Command) → Course width heard records flight next kept ran pending (cs ++ due) → Course width heard records flight next kept (ran ++ cs) (pending ++ marks cs) due
course_run width heard paper records flight next kept ran pending [] due c =
    subst (λ v. Course width heard records flight next kept v (pending ++ []) due) (sym (append-nil ran))
    (subst (λ v. Course width heard records flight next kept ran v due) (sym (append-nil pending)) c)
course_run width heard paper records flight next kept ran pending (d ∷ cs) due c =
    let one = course_step width heard paper records flight next kept ran pending d (cs ++ due) c in
    let all = course_run width heard paper records flight next kept (ran ++ d ∷ []) (pending ++ marks (d ∷ [])) cs due one in
    subst (λ v. Course width heard records flight next kept v (pending ++ marks (d ∷ cs)) due) (append_assoc ran (d ∷ []) cs)
    (subst (λ v. Course width heard records flight next kept ((ran ++ d ∷ []) ++ cs) v due)
    (append_assoc pending (marks (d ∷ [])) (marks cs) ∙ ap (λ v. pending ++ v) (sym (marks_append (d ∷ []) cs))) all)

-- ## The host hears the next mark

-- The mark has a number, and isn't one of those in flight; or it is that of the oldest receipt, which is recorded. What is said holds
-- from the next number on.
abbrev pub Popped : (ℕ → List (List Command) → List InFlight → Type 0) → ℕ → ℕ → List (List Command) → List InFlight → List ℕ → Type 0
Popped P heard next records flight id =
    ((n : ℕ) × (heard ≤ n) × (n < next) × (id_of n ≡ id) × (IsClosing 0 flight id → ⊥) × P (n + 1) records flight)
    ⊎ ((q : InFlight) × (ps : List InFlight) × (flight ≡ q ∷ ps) × (q.mark ≡ id) × (heard ≤ q.number) × P (q.number + 1) (records ++ q.receipt ∷ []) ps)

abbrev TurnsIn : ℕ → List InFlight → List InFlight → ℕ → List ℕ → List (List ℕ) → Type 0
TurnsIn heard done todo next id queue =
    ((n : ℕ) × (heard ≤ n) × (n < next) × (id_of n ≡ id) × (IsClosing 0 (done ++ todo) id → ⊥) × InOrder (n + 1) done todo next queue)
    ⊎ ((q : InFlight) × (others : List InFlight) × (done ≡ q ∷ others) × (q.mark ≡ id) × (heard ≤ q.number) × (queue ≡ closing_marks others) × InOrder (q.number + 1) others todo next queue)

turn_at : OfNumbers → (heard base : ℕ) (old : List (List ℕ)) (done todo : List InFlight) (next : ℕ) (id : List ℕ) (queue : List (List ℕ)) → AreApart heard next → Row heard base old
    → Rising base (done ++ todo) next → id ∷ queue ≡ old ++ closing_marks done → TurnsIn heard done todo next id queue
turn_at of heard base (o ∷ old) done todo next id queue apart (n, least, is, known) rising e =
    let same = head_same id o queue (old ++ closing_marks done) e in
    let below = row_within (n + 1) base old known in
    let within = rising_within base next (done ++ todo) rising in
    let mark = is ∙ sym same in
    inl (
      n,
      least,
      omega (arith, below, within),
      mark,
      not_closing of base next n (done ++ todo) id (omega (arith, below)) (omega (arith, apart, least)) mark rising,
      record { old = old; base = base; known = known; rising = rising; queue_is = tail_same id o queue (old ++ closing_marks done) e },
    )
turn_at of heard base [] [] todo next id queue apart known rising e = absurd (cc e)
turn_at of heard base [] (q ∷ others) todo next id queue apart known (from, is, rising) e =
    let rest = tail_same id q.mark queue (closing_marks others) e in
    inr (
      q,
      others,
      refl,
      sym (head_same id q.mark queue (closing_marks others) e),
      omega (arith, known, from),
      rest,
      record { old = []; base = q.number + 1; known = omega arith; rising = rising; queue_is = rest },
    )

turn_order : OfNumbers → (heard : ℕ) (done todo : List InFlight) (next : ℕ) (id : List ℕ) (queue : List (List ℕ)) → AreApart heard next → InOrder heard done todo next (id ∷ queue)
    → TurnsIn heard done todo next id queue
turn_order of heard done todo next id queue apart o = turn_at of heard o.base o.old done todo next id queue apart o.known o.rising o.queue_is

order_from : (m n : ℕ) (done todo : List InFlight) (next : ℕ) (queue : List (List ℕ)) → m ≤ n → InOrder n done todo next queue → InOrder m done todo next queue
order_from m n done todo next queue less o =
    record { old = o.old; base = o.base; known = row_from m n o.base o.old less o.known; rising = o.rising; queue_is = o.queue_is }

shifted : (records : List (List Command)) (q : InFlight) (done others : List InFlight) → done ≡ q ∷ others
    → records ++ receipts_of done ≡ (records ++ q.receipt ∷ []) ++ receipts_of others
shifted records q done others is = ap (λ v. records ++ receipts_of v) is ∙ sym (append_assoc records (q.receipt ∷ []) (receipts_of others))

pub owed_turn : (width heard : ℕ) → OfNumbers → (records : List (List Command)) (flight : List InFlight) (next : ℕ) (items : List Item) (id : List ℕ) (pending : List (List ℕ))
    → AreApart heard next → Owed width heard records flight next items (id ∷ pending) → Popped (λ k rs f. Owed width k rs f next items pending) heard next records flight id
owed_turn width heard of records flight next items id pending apart w = elim (turn_order of heard w.done w.todo next id pending apart w.order) [
  | inl (n, least, below, is, stale, o) ↦ inl (
    n,
    least,
    below,
    is,
    subst (λ v. IsClosing 0 v id → ⊥) (sym w.flight_is) stale,
    record { done = w.done; todo = w.todo; flight_is = w.flight_is; order = o; stands = w.stands },
  )
  | inr (q, others, is, mark, least, queue, o) ↦ inr (
    q,
    others ++ w.todo,
    w.flight_is ∙ ap (λ v. v ++ w.todo) is,
    mark,
    least,
    record { done = others; todo = w.todo; flight_is = refl; order = o; stands = subst (λ v. Stands width v items) (shifted records q w.done others is) w.stands },
  )
]

pub owed_from : (width m n : ℕ) (records : List (List Command)) (flight : List InFlight) (next : ℕ) (items : List Item) (pending : List (List ℕ)) → m ≤ n
    → Owed width n records flight next items pending → Owed width m records flight next items pending
owed_from width m n records flight next items pending less w =
    record { done = w.done; todo = w.todo; flight_is = w.flight_is; order = order_from m n w.done w.todo next pending less w.order; stands = w.stands }

marks_end : (left : List Command) (id : List ℕ) (pending : List (List ℕ)) (rest : List Command) → rest ≡ left ++ kind.Mark id ∷ [] → pending ++ marks rest ≡ [] → ⊥
marks_end left id pending rest is none =
    ends_never (pending ++ marks left) id
    (sym none ∙ ap (λ v. pending ++ v) (marks_last left id rest is) ∙ sym (append_assoc pending (marks left) (id ∷ [])))

printing_turn : (width : ℕ) (records : List (List Command)) (done : List InFlight) (rest : List Command) (kept : List Item) (ran : List Command) (q : InFlight)
    (others before : List InFlight) (pending : List (List ℕ)) → (p : Printing width records done rest kept ran) → p.before ≡ before → done ≡ q ∷ others
    → pending ++ marks rest ≡ closing_marks others → Printing width (records ++ q.receipt ∷ []) others rest kept ran
printing_turn width records done rest kept ran q others [] pending p none is queue =
    let one : q ∷ others ≡ p.current ∷ [] = sym is ∙ p.done_is ∙ ap (λ v. v ++ p.current ∷ []) none in
    let last = tail_same q p.current others [] one in
    absurd (marks_end p.to_run p.current.mark pending rest p.rest_is (queue ∙ ap closing_marks last))
printing_turn width records done rest kept ran q others (b ∷ before) pending p some is queue =
    let all : q ∷ others ≡ b ∷ (before ++ p.current ∷ []) = sym is ∙ p.done_is ∙ ap (λ v. v ++ p.current ∷ []) some in
    let same = head_same q b others (before ++ p.current ∷ []) all in
    record {
      before = before;
      current = p.current;
      first = p.first;
      run = p.run;
      to_run = p.to_run;
      done_is = tail_same q b others (before ++ p.current ∷ []) all;
      ran_is = p.ran_is;
      receipt_is = p.receipt_is;
      rest_is = p.rest_is;
      stands = subst (λ v. Stands width v (kept ++ printed width p.first)) (shifted records q p.before before (some ∙ ap (λ v. v ∷ before) (sym same))) p.stands;
    }

stood_turn : (width : ℕ) (records : List (List Command)) (done : List InFlight) (rest : List Command) (kept : List Item) (ran : List Command) (q : InFlight)
    (others : List InFlight) (pending : List (List ℕ)) → done ≡ q ∷ others → pending ++ marks rest ≡ closing_marks others → Stood width records done rest kept ran
    → Stood width (records ++ q.receipt ∷ []) others rest kept ran
stood_turn width records done rest kept ran q others pending is queue (inl s) =
    inl (subst (λ v. Stands width v (kept ++ printed width ran)) (shifted records q done others is) s)
stood_turn width records done rest kept ran q others pending is queue (inr p) = inr (printing_turn width records done rest kept ran q others p.before pending p refl is queue)

pub course_turn : (width heard : ℕ) → OfNumbers → (records : List (List Command)) (flight : List InFlight) (next : ℕ) (kept : List Item) (ran : List Command) (id : List ℕ)
    (pending : List (List ℕ)) (due : List Command) → AreApart heard next → Course width heard records flight next kept ran (id ∷ pending) due
    → Popped (λ k rs f. Course width k rs f next kept ran pending due) heard next records flight id
course_turn width heard of records flight next kept ran id pending due apart c = elim (turn_order of heard c.done c.todo next id (pending ++ marks c.rest) apart c.order) [
  | inl (n, least, below, is, stale, o) ↦ inl (
    n,
    least,
    below,
    is,
    subst (λ v. IsClosing 0 v id → ⊥) (sym c.flight_is) stale,
    record { done = c.done; todo = c.todo; rest = c.rest; flight_is = c.flight_is; order = o; due_is = c.due_is; unmarked = c.unmarked; stood = c.stood },
  )
  | inr (q, others, is, mark, least, queue, o) ↦ inr (
    q,
    others ++ c.todo,
    c.flight_is ∙ ap (λ v. v ++ c.todo) is,
    mark,
    least,
    record {
      done = others;
      todo = c.todo;
      rest = c.rest;
      flight_is = refl;
      order = o;
      due_is = c.due_is;
      unmarked = c.unmarked;
      stood = stood_turn width records c.done c.rest kept ran q others pending is queue c.stood;
    },
  )
]

pub course_from : (width m n : ℕ) (records : List (List Command)) (flight : List InFlight) (next : ℕ) (kept : List Item) (ran : List Command) (pending : List (List ℕ))
    (due : List Command) → m ≤ n → Course width n records flight next kept ran pending due → Course width m records flight next kept ran pending due
course_from width m n records flight next kept ran pending due less c = record {
  done = c.done;
  todo = c.todo;
  rest = c.rest;
  flight_is = c.flight_is;
  order = order_from m n c.done c.todo next (pending ++ marks c.rest) less c.order;
  due_is = c.due_is;
  unmarked = c.unmarked;
  stood = c.stood;
}
