use Rattle.std.proofs.Common.{rules, ◌≡◌, ◌∷◌, ◌∙◌, [], ℕ, Bool, List, option_map, Option, Some, Bor, true, false, refl, sym, ap, arith}
use Rattle.std.specs.Prelude.{◌||◌}
use Rattle.std.specs.Io.KnownBytes.{Appends}
use Rattle.lake_script.specs.ReplyView.{is_short_reply, reply_text}
use Rattle.lake_script.specs.Replies.{bad_line}
use Rattle.lake_script.specs.Streams.{held, waiting}
use Rattle.lake_script.specs.Told.{first_bad_from, is_bad}
use Rattle.lake_script.proofs.Answering.{front_none, front_one, none_answered, not_yet_written, or_false, or_true, told_all, told_bad, told_one, told_skipped, with_left}
use Rattle.lake_script.proofs.RunLemmas.{first_bad_from-none, first_bad_here, first_bad_next, lines_at_most-after, lines_left_none}
use Rattle.lake_script.proofs.RunsLemmas.{on_err, tells_on}
use Rattle.lake_script.proofs.StreamLemmas.{Appends-none}
use Rattle.script_lines.specs.Lines.{bad, reading_of, reading_view, skipped}
use Rattle.script_lines.specs.Splitting.{lines_left}
use Rattle.script_lines.proofs.Callers.{reading_timely}
use Rattle.lake_script.proofs.interpreter.answer_each.Goals.{in-Skipped, in-Asks+in-Some-do_line+in_ok-give-in-Asks, in-Asks+in_default-do_line, then-is_short, else-is_short}
use Rattle.lake_script.proofs.interpreter.answer_each.Goals as goal

-- the lines of what is left, where it is a line and what follows
split : (rest : Option (Bor (List ℕ))) (text line : Bor (List ℕ)) (after : Option (Bor (List ℕ))) → rest ≡ Some text → lines_left (Some text.now) ≡ line.now ∷ lines_left (option_map (λ a. a.now) after) → lines_left (option_map (λ a. a.now) rest) ≡ line.now ∷ lines_left (option_map (λ a. a.now) after)
split rest text line after h e = ap (λ r. lines_left (option_map (λ a. a.now) r)) h ∙ e

pub do_line-requires-clause-timely : goal.do_line-requires-clause-timely
do_line-requires-clause-timely g c = reading_timely _ _ (ap reading_view (sym c.in-Asks.is) ∙ c.in_ok-reading_of.ensures)

pub loop-rest-init : goal.loop-rest-init
loop-rest-init g c = record {
  so_far = λ reliable s stands. none_answered g.I.Interpreter.does s c.args.text.now (g.I.Interpreter.stands c.args.interpreter.now) c.args.is_short.now _ c.requires.unshort stands;
  behind = ([], Appends-none _, tt);
  reliable = λ reliable. reliable;
  ready = c.requires.ready;
  kept = refl;
  found = refl;
  unbroken = refl;
  counted = search rules;
}

pub loop-rest-preserved : goal.loop-rest-preserved
loop-rest-preserved g c =
    let here = split c.loop-rest.rest c.in-Some.text c.first_line.result.0 c.first_line.result.1 c.in-Some.is c.first_line.ensures.lines in
    let found = ap (first_bad_from c.loop-rest.number) (sym here) ∙ c.loop-rest.invariant.found in
    let more = lines_at_most-after c.in-Some.text.now c.first_line.result.1 c.first_line.ensures.shorter in
    let fits = rw c.in-Some.is at c.loop-rest.invariant.counted in
    elim c.match-branch-2.branch [
      | in-Skipped w ↦
          let is : reading_of c.first_line.result.0.now ≡ skipped = sym (ap reading_view (sym w.in-Skipped.is) ∙ c.in_ok-reading_of.ensures) in
          rw (w.interpreter-is, w.output-is, w.is_short-is) (record {
            so_far = λ reliable s stands.
                told_skipped g.I.Interpreter.does s c.args.text.now (g.I.Interpreter.stands c.loop-rest.interpreter) (g.I.Interpreter.stands c.loop-rest.interpreter) c.loop-rest.number c.first_line.result.0.now _ _ _ c.loop-rest.is_short is
                (with_left g.I.Interpreter.does s c.args.text.now (g.I.Interpreter.stands c.loop-rest.interpreter) _ _ c.loop-rest.number _ _ c.loop-rest.is_short here (c.loop-rest.invariant.so_far reliable s stands));
            behind = c.loop-rest.invariant.behind;
            reliable = c.loop-rest.invariant.reliable;
            ready = c.loop-rest.invariant.ready;
            kept = c.loop-rest.invariant.kept;
            found = sym (first_bad_next _ _ _ (ap is_bad is)) ∙ found;
            unbroken = c.loop-rest.invariant.unbroken;
            counted = omega (arith, more, fits);
          })
      | in-Asks+in-Some-do_line+in_ok-give-in-Asks w ↦
          let asked = sym (ap reading_view (sym w.in-Asks.is) ∙ c.in_ok-reading_of.ensures) in
          let reply = w.in-Some-do_line.reply in
          let fell : w.if-is_short.is_short ≡ (c.loop-rest.is_short || is_short_reply reply) = elim w.if-is_short.branch [
            | then-is_short v ↦ let so : is_short_reply reply ≡ true = search rules in v.is_short-is ∙ or_true c.loop-rest.is_short (is_short_reply reply) so
            | else-is_short v ↦ let so : is_short_reply reply ≡ false = search rules in v.is_short-is ∙ or_false c.loop-rest.is_short (is_short_reply reply) so
          ] in
          rw (w.interpreter-is, w.output-is, w.is_short-is) (record {
            so_far = λ reliable s stands.
                let so = with_left g.I.Interpreter.does s c.args.text.now (g.I.Interpreter.stands c.loop-rest.interpreter) _ _ c.loop-rest.number _ _ c.loop-rest.is_short here (c.loop-rest.invariant.so_far reliable s stands) in
                let came = rw w.in-Some-do_line.is at (w.do_line.ensures.does (c.loop-rest.invariant.reliable reliable) so.2.s so.2.stands) in
                told_one g.I.Interpreter.does s c.args.text.now (g.I.Interpreter.stands c.loop-rest.interpreter) (g.I.Interpreter.stands w.do_line.new.self) _ _ _ _ _ _ _ _ _ _ _ asked fell so came w.in_ok-give-in-Asks.ensures.held;
            behind = tells_on _ _ _ c.loop-rest.invariant.behind (reply_text reply, w.in_ok-give-in-Asks.ensures.held, tt);
            reliable = λ reliable. w.do_line.ensures.reliable (c.loop-rest.invariant.reliable reliable);
            ready = w.do_line.ensures.ready;
            kept = w.do_line.ensures.kept ∙ c.loop-rest.invariant.kept;
            found = sym (first_bad_next _ _ _ (ap is_bad asked)) ∙ found;
            unbroken = w.in_ok-give-in-Asks.ensures.unbroken ∙ c.loop-rest.invariant.unbroken;
            counted = omega (arith, more, fits);
          })
      | in-Asks+in_default-do_line w ↦
          let asked = sym (ap reading_view (sym w.in-Asks.is) ∙ c.in_ok-reading_of.ensures) in
          rw (w.interpreter-is, w.output-is, w.is_short-is) (record {
            so_far = λ reliable s stands.
                let so = with_left g.I.Interpreter.does s c.args.text.now (g.I.Interpreter.stands c.loop-rest.interpreter) _ _ c.loop-rest.number _ _ c.loop-rest.is_short here (c.loop-rest.invariant.so_far reliable s stands) in
                let came = rw w.in_default-do_line.is at (w.do_line.ensures.does (c.loop-rest.invariant.reliable reliable) so.2.s so.2.stands) in
                told_one g.I.Interpreter.does s c.args.text.now (g.I.Interpreter.stands c.loop-rest.interpreter) (g.I.Interpreter.stands w.do_line.new.self) _ _ _ _ _ _ _ _ false [] _ asked (or_false c.loop-rest.is_short false refl) so came
                (Appends-none _);
            behind = c.loop-rest.invariant.behind;
            reliable = λ reliable. w.do_line.ensures.reliable (c.loop-rest.invariant.reliable reliable);
            ready = w.do_line.ensures.ready;
            kept = w.do_line.ensures.kept ∙ c.loop-rest.invariant.kept;
            found = sym (first_bad_next _ _ _ (ap is_bad asked)) ∙ found;
            unbroken = c.loop-rest.invariant.unbroken;
            counted = omega (arith, more, fits);
          })
    ]

-- ---- a bad line

pub returns-in-Bad-clause-answers : goal.returns-in-Bad-clause-answers
returns-in-Bad-clause-answers g c = λ reliable s stands.
    let here = split c.loop-rest.rest c.in-Some.text c.first_line.result.0 c.first_line.result.1 c.in-Some.is c.first_line.ensures.lines in
    let is : reading_of c.first_line.result.0.now ≡ bad = sym (ap reading_view (sym c.in-Bad.is) ∙ c.in_ok-reading_of.ensures) in
    let said : Appends (held g.W.Write.contents c.loop-rest.output) (held g.W.Write.contents c.say.new.self) (bad_line c.loop-rest.number) = search rules in
    let so = with_left g.I.Interpreter.does s c.args.text.now (g.I.Interpreter.stands c.loop-rest.interpreter) _ _ c.loop-rest.number _ _ c.loop-rest.is_short here (c.loop-rest.invariant.so_far reliable s stands) in
    told_bad g.I.Interpreter.does s c.args.text.now (g.I.Interpreter.stands c.loop-rest.interpreter) (g.I.Interpreter.stands c.loop-rest.interpreter) _ _ _ _ _ _ _ is so said

pub returns-in_err-say-in-Bad-clause-front : goal.returns-in_err-say-in-Bad-clause-front
returns-in_err-say-in-Bad-clause-front g c = λ reliable s stands.
    on_err _ _ (front_none g.I.Interpreter.does s c.args.text.now (g.I.Interpreter.stands c.loop-rest.interpreter) _ _ _ _ _ _ (c.loop-rest.invariant.so_far reliable s stands) c.in_err-say-in-Bad.ensures.stands)

pub returns-in-Bad-clause-bad : goal.returns-in-Bad-clause-bad
returns-in-Bad-clause-bad g c =
    let here = split c.loop-rest.rest c.in-Some.text c.first_line.result.0 c.first_line.result.1 c.in-Some.is c.first_line.ensures.lines in
    let is : reading_of c.first_line.result.0.now ≡ bad = sym (ap reading_view (sym c.in-Bad.is) ∙ c.in_ok-reading_of.ensures) in
    sym (first_bad_here _ _ _ (ap is_bad is)) ∙ (ap (first_bad_from c.loop-rest.number) (sym here) ∙ c.loop-rest.invariant.found)

pub returns-in-Bad-clause-behind : goal.returns-in-Bad-clause-behind
returns-in-Bad-clause-behind g c =
    let said : Appends (held g.W.Write.contents c.loop-rest.output) (held g.W.Write.contents c.say.new.self) (bad_line c.loop-rest.number) = search rules in
    tells_on _ _ _ c.loop-rest.invariant.behind (bad_line c.loop-rest.number, said, tt)

-- ---- where a line isn't read, or a reply not given

pub returns-in_err-reading_of-clause-front : goal.returns-in_err-reading_of-clause-front
returns-in_err-reading_of-clause-front g c = λ reliable s stands.
    on_err _ _ (front_none g.I.Interpreter.does s c.args.text.now (g.I.Interpreter.stands c.loop-rest.interpreter) _ _ _ _ _ _ (c.loop-rest.invariant.so_far reliable s stands)
    (not_yet_written (g.W.Write.contents c.loop-rest.output.writer) (waiting c.loop-rest.output)))

pub returns-in_err-give-in-Asks-clause-front : goal.returns-in_err-give-in-Asks-clause-front
returns-in_err-give-in-Asks-clause-front g c = λ reliable s stands.
    let here = split c.loop-rest.rest c.in-Some.text c.first_line.result.0 c.first_line.result.1 c.in-Some.is c.first_line.ensures.lines in
    let asked = sym (ap reading_view (sym c.in-Asks.is) ∙ c.in_ok-reading_of.ensures) in
    let reply = c.in-Some-do_line.reply in
    let fell : c.if-is_short.is_short ≡ (c.loop-rest.is_short || is_short_reply reply) = elim c.if-is_short.branch [
      | then-is_short v ↦ let so : is_short_reply reply ≡ true = search rules in v.is_short-is ∙ or_true c.loop-rest.is_short (is_short_reply reply) so
      | else-is_short v ↦ let so : is_short_reply reply ≡ false = search rules in v.is_short-is ∙ or_false c.loop-rest.is_short (is_short_reply reply) so
    ] in
    let so = with_left g.I.Interpreter.does s c.args.text.now (g.I.Interpreter.stands c.loop-rest.interpreter) _ _ c.loop-rest.number _ _ c.loop-rest.is_short here (c.loop-rest.invariant.so_far reliable s stands) in
    let came = rw c.in-Some-do_line.is at (c.do_line.ensures.does (c.loop-rest.invariant.reliable reliable) so.2.s so.2.stands) in
    on_err _ _ (front_one g.I.Interpreter.does s c.args.text.now (g.I.Interpreter.stands c.loop-rest.interpreter) (g.I.Interpreter.stands c.do_line.new.self) _ _ _ _ _ _ _ _ _ _ _ asked fell so came c.in_err-give-in-Asks.ensures.stands)

-- ---- the end

pub returns-clause-answers : goal.returns-clause-answers
returns-clause-answers g c = λ reliable s stands.
    let so = with_left g.I.Interpreter.does s c.args.text.now (g.I.Interpreter.stands c.loop-rest.interpreter) _ _ c.loop-rest.number _ [] c.loop-rest.is_short (lines_left_none c.loop-rest.rest c.in_default.not-Some)
    (c.loop-rest.invariant.so_far reliable s stands) in
    told_all g.I.Interpreter.does s c.args.text.now (g.I.Interpreter.stands c.loop-rest.interpreter) _ _ _ _ so

pub returns-clause-bad : goal.returns-clause-bad
returns-clause-bad g c = sym (ap (first_bad_from c.loop-rest.number) (lines_left_none c.loop-rest.rest c.in_default.not-Some) ∙ first_bad_from-none c.loop-rest.number) ∙ c.loop-rest.invariant.found

pub returns-clause-behind : goal.returns-clause-behind
returns-clause-behind g c = c.loop-rest.invariant.behind
