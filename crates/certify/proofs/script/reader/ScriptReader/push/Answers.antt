use Rattle.std.proofs.Common.{◌≡◌, ◌+◌, ◌-◌, ◌≤◌, ℕ, List, take, drop, length}
use Rattle.certify.specs.declared.script.Reached.{Reached}
use Rattle.certify.specs.declared.script.Reached.TheVariants as reached
use Rattle.certify.specs.declared.script.reader.ScriptReader.{ScriptReader}
use Rattle.certify.specs.script.Commands.{ReceivesBytes}
use Rattle.certify.specs.script.LastChunk.{ConsumesText}
use Rattle.certify.proofs.lemmas.script.Bytes.{reader, bytes_go, bytes_take, bytes_wrong, followed_front, no_more}
use Rattle.certify.proofs.lemmas.script.LastChunks.{consumes_front, consumes_part, consumes_token, consumes_wrong}
use Rattle.certify.proofs.script.reader.ScriptReader.push.Goals as goal
use Rattle.certify.proofs.script.reader.ScriptReader.push.Goals.{After-take_token-count, In_ok-take}

-- the bytes of this iteration
module _ (c : After-take_token-count) where
  abbrev front : List ℕ
  front = take c.take_token-count.result.0 (take (length c.args.bytes.now - c.loop-at.at) (drop c.loop-at.at c.args.bytes.now))

  within : c.loop-at.at + c.take_token-count.result.0 ≤ length c.args.bytes.now
  within = no_more c.args.bytes.now c.loop-at.at c.take_token-count.result.0 c.loop-at.invariant.within c.take_token-count.ensures.within

  -- after those before
  taken : (r : Reached) (new : ScriptReader) → ReceivesBytes r c.loop-at.self front new → ReceivesBytes r c.args.self.now (take (c.loop-at.at + c.take_token-count.result.0) c.args.bytes.now) new
  taken r new t = followed_front r c.args.self.now c.loop-at.self new c.args.bytes.now c.loop-at.at c.take_token-count.result.0 c.loop-at.invariant.within c.take_token-count.ensures.within c.loop-at.invariant.taken t

  consumed : (r : Reached) (new : ScriptReader) → ConsumesText r c.loop-at.self front new → ConsumesText r c.args.self.now (take (c.loop-at.at + c.take_token-count.result.0) c.args.bytes.now) new
  consumed r new t = consumes_front r c.args.self.now c.loop-at.self new c.args.bytes.now c.loop-at.at c.take_token-count.result.0 c.loop-at.invariant.within c.take_token-count.ensures.within c.loop-at.invariant.text t

-- they end a token
module _ (c : In_ok-take) where
  took_text : (r : Reached) → c.in_ok-take.field-0 ≡ r → ConsumesText r c.args.self.now (take (c.loop-at.at + c.take_token-count.result.0) c.args.bytes.now) (reader c.take_token-count.new.tokenizer c.take.new.self)
  took_text r is =
      let x = (goal.at.In_ok-take c).After-take_token-count in
      consumed x r (reader c.take_token-count.new.tokenizer c.take.new.self)
      (consumes_token r c.loop-at.self (front x) c.in-Some.token c.take_token-count.new.tokenizer c.take.new.self (rw c.in-Some.is at c.take_token-count.ensures.takes) (c.take_token-count.ensures.right (λ e. let f = c.in-Some.is in cc)) (λ given e. rw is at (c.in_ok-take.ensures given e)))

  took : (r : Reached) → c.in_ok-take.field-0 ≡ r → ReceivesBytes r c.args.self.now (take (c.loop-at.at + c.take_token-count.result.0) c.args.bytes.now) (reader c.take_token-count.new.tokenizer c.take.new.self)
  took r is =
      let x = (goal.at.In_ok-take c).After-take_token-count in
      taken x r (reader c.take_token-count.new.tokenizer c.take.new.self)
      (bytes_take r c.loop-at.self (front x) c.in-Some.token c.take_token-count.new.tokenizer c.take.new.self (rw c.in-Some.is at c.take_token-count.ensures.takes) (λ given e. rw is at (c.in_ok-take.ensures given e)))

pub loop-at-preserved-in_default : goal.loop-at-preserved-in_default
loop-at-preserved-in_default c =
    let x = (goal.at.loop-at-preserved-in_default c).After-take_token-count in
    record {
      within = within x;
      right = λ h. c.is_wrong.ensures.right c.if-is_wrong.false;
      taken = taken x reached.More (reader c.take_token-count.new.tokenizer c.loop-at.self.commands) (bytes_go c.loop-at.self (front x) c.take_token-count.new.tokenizer (rw c.in_default.is at c.take_token-count.ensures.takes));
      text = consumed x reached.More (reader c.take_token-count.new.tokenizer c.loop-at.self.commands) (consumes_part c.loop-at.self (front x) c.take_token-count.new.tokenizer (rw c.in_default.is at c.take_token-count.ensures.takes) (c.is_wrong.ensures.right c.if-is_wrong.false));
    }

pub loop-at-preserved : goal.loop-at-preserved
loop-at-preserved c = record {
  within = within (goal.at.loop-at-preserved c).After-take_token-count;
  right = λ h. c.take_token-count.ensures.right (λ e. let f = c.in-Some.is in cc);
  taken = took (goal.at.loop-at-preserved c).In_ok-take reached.More c.in-More.is;
  text = took_text (goal.at.loop-at-preserved c).In_ok-take reached.More c.in-More.is;
}

pub returns-then-is_wrong-clause-takes : goal.returns-then-is_wrong-clause-takes
returns-then-is_wrong-clause-takes c =
    let x = (goal.at.returns-then-is_wrong-clause-takes c).After-take_token-count in
    taken x reached.Malformed (reader c.take_token-count.new.tokenizer c.loop-at.self.commands)
    (bytes_wrong c.loop-at.self (front x) c.take_token-count.new.tokenizer (rw c.in_default.is at c.take_token-count.ensures.takes) (c.is_wrong.ensures.wrong c.if-is_wrong.true))

pub returns-in-Command-clause-takes : goal.returns-in-Command-clause-takes
returns-in-Command-clause-takes c = took (goal.at.returns-in-Command-clause-takes c).In_ok-take reached.Command c.in-Command.is

pub returns-in-Malformed-clause-takes : goal.returns-in-Malformed-clause-takes
returns-in-Malformed-clause-takes c = took (goal.at.returns-in-Malformed-clause-takes c).In_ok-take reached.Malformed c.in-Malformed.is

pub returns-then-is_wrong-clause-text : goal.returns-then-is_wrong-clause-text
returns-then-is_wrong-clause-text c =
    let x = (goal.at.returns-then-is_wrong-clause-text c).After-take_token-count in
    consumed x reached.Malformed (reader c.take_token-count.new.tokenizer c.loop-at.self.commands) (consumes_wrong c.loop-at.self (front x) c.take_token-count.new.tokenizer c.loop-at.self.commands (rw c.in_default.is at c.take_token-count.ensures.takes))

pub returns-in-Command-clause-text : goal.returns-in-Command-clause-text
returns-in-Command-clause-text c = took_text (goal.at.returns-in-Command-clause-text c).In_ok-take reached.Command c.in-Command.is

pub returns-in-Malformed-clause-text : goal.returns-in-Malformed-clause-text
returns-in-Malformed-clause-text c = took_text (goal.at.returns-in-Malformed-clause-text c).In_ok-take reached.Malformed c.in-Malformed.is

pub returns-clause-text : goal.returns-clause-text
returns-clause-text c = c.loop-at.invariant.text
