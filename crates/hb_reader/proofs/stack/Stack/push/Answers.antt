use Rattle.std.proofs.Common.{ap, sym, ◌∙◌}
use Rattle.hb_reader.specs.Frames.{base_of, frames_on, nesting_of}
use Rattle.hb_reader.specs.Stacks.{stack}
use Rattle.hb_reader.proofs.FrameLemmas.{kept, frames_on-more, pushed-kept}
use Rattle.hb_reader.proofs.stack.Stack.push.Goals as goal

pub invariant_of-result : goal.invariant_of-result
invariant_of-result c =
    let k = base_of c.args.self.base in
    let fs = c.args.self.frames.items in
    let f = kept c.args.frame c.args.self.nesting in
    record {
      counted =
          c.nesting-nesting.ensures (stack c.args.self) c.args.self.counted
          ∙ ap nesting_of (sym (ap (frames_on k) c.in_ok-push.ensures.items ∙ frames_on-more fs k f));
      kept = rw c.in_ok-push.ensures.items (pushed-kept fs k f c.args.self.kept c.args.self.counted);
    }

pub returns : goal.returns
returns c =
    let k = base_of c.args.self.base in
    ap (frames_on k) c.in_ok-push.ensures.items
    ∙ frames_on-more c.args.self.frames.items k (kept c.args.frame c.args.self.nesting)
