use Rattle.std.proofs.Common.{refl, rules, sym}
use Rattle.std.proofs.lemmas.List.{append-nil}
use Rattle.desk_text.proofs.texts.end_text.Goals as goal

pub returns-in-All : goal.returns-in-All
returns-in-All c =
    rw c.in-All.is
    (record { ok = sym (append-nil c.args.out.now.items); err = tt; utf8 = λ of_a. of_a; nothing = λ e. refl })

pub returns-in-Stopped : goal.returns-in-Stopped
returns-in-Stopped c =
    rw c.in-Stopped.is
    (record { ok = sym (append-nil c.args.out.now.items); err = tt; utf8 = λ of_a. of_a; nothing = λ e. refl })

pub returns-in-TooManyUnreadable : goal.returns-in-TooManyUnreadable
returns-in-TooManyUnreadable c =
    rw c.in-TooManyUnreadable.is
    (record {
      ok = rw c.too_many_line.ensures at c.append_text.ensures.ok;
      err = c.append_text.ensures.err;
      utf8 = c.append_text.ensures.utf8;
      nothing = λ e. cc;
    })

pub returns-in-Store-clause-ok : goal.returns-in-Store-clause-ok
returns-in-Store-clause-ok c = search rules
