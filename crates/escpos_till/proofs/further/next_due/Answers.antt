-- What is to be sent is the first receipt that waits once this one is recorded, and nothing else is left to be put or heard.
use Rattle.std.proofs.Common.{Some, ap, arith, refl, rules}
use Rattle.escpos_till.specs.Contents.{content_with}
use Rattle.escpos_till.proofs.further.next_due.Goals as goal

pub returns : goal.returns
returns c = record {
  how = c.in-Some.further;
  given = c.in-Some.is;
  text = c.in-Ok.ensures.text;
  next = λ entries book follows.
      let (receipt, describes, whole, is) = c.in-Ok.ensures.receipt in record {
        content = content_with c.in-Some-first_besides.first.options c.in-Some-first_besides.first.content.now;
        tried = c.in-Some-first_besides.first.tried;
        first = (c.in-Some-first_besides.ensures.first entries _ book follows).0;
        receipt = receipt;
        describes = describes;
        whole = whole;
        sent = is;
      };
  waits = λ entries book follows. (c.in-Some-first_besides.ensures.first entries _ book follows).1;
  answers = refl;
  goes_on = ap Some c.copy.ensures;
  commands = c.in-Ok.ensures.commands.0;
  whole = c.in-Ok.ensures.commands.1;
  link = search rules;
  quiet = search rules;
  marks = search rules;
  within = omega (arith, c.if-book-limit_from.false, c.limit_from.ensures, c.min.ensures, c.oldest_mark.ensures);
  few = λ entries book. omega (arith, c.if-book.false, book.count);
  room = search rules;
}
