use Rattle.std.proofs.Common.{◌≡◌, sym, ap, ◌∙◌, subst, get_or, arith, [], List, ℕ, ◌++◌, ◌∷◌}
use Rattle.std.specs.Str.{IsAscii}
use Rattle.std.proofs.lemmas.List.{append-nil}
use Rattle.hb_raw.specs.declared.command.Command.{Command}
use Rattle.hb_raw.specs.Views.{sentences}
use Rattle.hb_grammar.specs.Machine.{State, begin}
use Rattle.hb_grammar.proofs.Unique.{IsMoving}
use Rattle.hb_grammar.proofs.Way.{Came, came-none}
use Rattle.hb_reader.specs.States.{state}
use Rattle.hb_parse.specs.Answers.{limits}
use Rattle.hb_parse.specs.Marks.{piece, mark_of}
use Rattle.hb_parse.proofs.Ascii.{token_ascii}
use Rattle.hb_parse.proofs.FileLemmas.{no_token, token_at, agrees-old, extends-more, next_token, sentence_ends, sentence_goes_on, going_moving, stopped, at_begin, file_read, file_cut}
use Rattle.hb_parse.proofs.NamesLemmas.{Named, named-none, named-step, named-ended, named-all}
use Rattle.hb_parse.specs.declared.error.ParseRefused.TheVariants.{Syntax}
use Rattle.hb_parse.proofs.Exact.{form_only}
use Rattle.hb_parse.proofs.Tied.{tied_at, tied}
use Rattle.hb_parse.proofs.file.parse.Goals as goal
use Rattle.hb_parse.proofs.file.parse.Goals.{in-Ok-finished+in_ok-push-in-Ok-finished, in-Err-finished}

pub loop-i-init : goal.loop-i-init
loop-i-init c =
    let e = c.begin-state.ensures in
    record {
      came = λ ν a. subst (λ (x : State). Came limits [] (sentences c.new-commands.result.items) x) (sym e)
          (rw c.new-commands.ensures.items (came-none limits));
      moving = subst IsMoving (sym e) tt;
      kept = ([], sym (append-nil c.args.names.now));
      named = λ i. subst (λ (x : State). Named c.args.names.now c.args.names.now (sentences c.new-commands.result.items) x i) (sym e)
          (rw c.new-commands.ensures.items (named-none c.args.names.now i));
    }

pub turn-requires : goal.turn-requires
turn-requires c =
    subst IsAscii (sym c.piece-text.ensures)
    (token_ascii _ c.args.bytes.now c.args.tokens.now c.loop-i.i no_token c.requires.tokens.read c.loop-i-test.true)

pub returns-in-Err-clause-refused : goal.returns-in-Err-clause-refused
returns-in-Err-clause-refused c =
    let bytes = c.args.bytes.now in
    let ts = c.args.tokens.now in
    let i = c.loop-i.i in
    let t = get_or ts i no_token in
    let l = c.loop-i-test.true in
    let stops = rw c.piece-text.ensures at c.in-Err.ensures.stop in
    rw c.refused.ensures
    (stopped bytes ts i t l (token_at ts i no_token t l) c.turn.new.names (sentences c.loop-i.commands.items) (state c.loop-i.state) c.in-Err.stop
    (λ ν a. c.loop-i.invariant.came ν (agrees-old c.loop-i.names c.turn.new.names c.in-Err.ensures.kept ν a)) c.loop-i.invariant.moving
    (λ j. let named = c.loop-i.invariant.named j in (named.under_way, named.load)) stops)

pub loop-i-preserved : goal.loop-i-preserved
loop-i-preserved c =
    let bytes = c.args.bytes.now in
    let ts = c.args.tokens.now in
    let i = c.loop-i.i in
    let t = get_or ts i no_token in
    let l = c.loop-i-test.true in
    let old = c.loop-i.names in
    let new = c.turn.new.names in
    let cs = c.loop-i.commands.items in
    let u = state c.in-Ok.next in
    let goes = rw c.piece-text.ensures at c.in-Ok.ensures.next in
    let fits = rw c.piece-text.ensures at c.in-Ok.ensures.fits in
    let kept = extends-more c.args.names.now old new c.loop-i.invariant.kept c.in-Ok.ensures.kept in
    let came = next_token bytes ts i t l (token_at ts i no_token t l) new (sentences cs) (state c.loop-i.state) u
    (λ ν a. c.loop-i.invariant.came ν (agrees-old old new c.in-Ok.ensures.kept ν a)) goes fits in
    let counted = rw c.piece-text.ensures at c.in-Ok.ensures.counted in
    let named : (j : ℕ) → Named c.args.names.now new (sentences cs) u j =
    λ j. named-step c.args.names.now old new (sentences cs) (state c.loop-i.state) u (mark_of t.kind (piece bytes t.span)) j c.in-Ok.ensures.kept (c.loop-i.invariant.named j) counted in
    elim c.match-finished.branch [
      | in-Ok-finished+in_ok-push-in-Ok-finished w ↦
          let e : state c.match-finished.state ≡ begin = ap state w.state-is ∙ w.begin-state-in-Ok-finished.ensures in
          let f : c.match-finished.commands.items ≡ cs ++ (w.in-Ok-finished.command ∷ []) =
          ap (λ v. v.items) w.commands-is ∙ w.in_ok-push-in-Ok-finished.ensures.items in
          let ended = sentence_ends bytes ts i t new cs w.in-Ok-finished.command u w.in-Ok-finished.ensures.ended came in
          record {
            came = λ ν a. rw (e, f) (ended ν a);
            moving = rw e tt;
            kept = kept;
            named = λ j.
                subst (λ (x : State). Named c.args.names.now new (sentences c.match-finished.commands.items) x j) (sym e)
                (subst (λ (x : List Command). Named c.args.names.now new (sentences x) begin j) (sym f)
                (named-ended c.args.names.now new cs w.in-Ok-finished.command u j w.in-Ok-finished.ensures.ended (named j)));
          }
      | in-Err-finished w ↦
          let e : state c.match-finished.state ≡ u = ap state w.state-is ∙ w.in-Err-finished.ensures.same in
          let f : c.match-finished.commands.items ≡ cs = ap (λ v. v.items) w.commands-is in
          let going = rw w.in-Err-finished.ensures.same at w.in-Err-finished.ensures.going in
          let goes_on = sentence_goes_on bytes ts i t new (sentences cs) u going came in
          record {
            came = λ ν a. rw (e, f) (goes_on ν a);
            moving = rw e (going_moving u going);
            kept = kept;
            named = λ j.
                subst (λ (x : State). Named c.args.names.now new (sentences c.match-finished.commands.items) x j) (sym e)
                (subst (λ (x : List Command). Named c.args.names.now new (sentences x) u j) (sym f) (named j));
          }
    ]

pub returns-then-whole-clause-read : goal.returns-then-whole-clause-read
returns-then-whole-clause-read c =
    file_read c.args.bytes.now c.args.tokens.now c.loop-i.i c.loop-i.names (sentences c.loop-i.commands.items) (state c.loop-i.state)
    (omega arith) c.loop-i.invariant.came (sym c.is_begin-whole.ensures ∙ c.if-whole.true)

pub returns-else-whole-clause-refused : goal.returns-else-whole-clause-refused
returns-else-whole-clause-refused c =
    rw c.place.ensures
    (file_cut c.args.bytes.now c.args.tokens.now c.loop-i.i c.loop-i.names (sentences c.loop-i.commands.items) (state c.loop-i.state)
    (omega arith) c.loop-i.invariant.came c.loop-i.invariant.moving (sym c.is_begin-whole.ensures ∙ c.if-whole.false))

pub returns-then-whole-clause-held : goal.returns-then-whole-clause-held
returns-then-whole-clause-held c = λ i.
    (named-all c.args.names.now c.loop-i.names (sentences c.loop-i.commands.items) (state c.loop-i.state) i
    (at_begin (state c.loop-i.state) (sym c.is_begin-whole.ensures ∙ c.if-whole.true)) (c.loop-i.invariant.named i)).0

pub returns-then-whole-clause-alone : goal.returns-then-whole-clause-alone
returns-then-whole-clause-alone c = λ i.
    (named-all c.args.names.now c.loop-i.names (sentences c.loop-i.commands.items) (state c.loop-i.state) i
    (at_begin (state c.loop-i.state) (sym c.is_begin-whole.ensures ∙ c.if-whole.true)) (c.loop-i.invariant.named i)).1

pub returns-in-Err-clause-none : goal.returns-in-Err-clause-none
returns-in-Err-clause-none c =
    form_only c.turn.new.names c.args.bytes.now c.args.tokens.now c.refused.result (returns-in-Err-clause-refused c)

pub returns-else-whole-clause-none : goal.returns-else-whole-clause-none
returns-else-whole-clause-none c =
    form_only c.loop-i.names c.args.bytes.now c.args.tokens.now (Syntax c.place.result) (returns-else-whole-clause-refused c)

pub returns-in-Err-clause-tied : goal.returns-in-Err-clause-tied
returns-in-Err-clause-tied c =
    let bytes = c.args.bytes.now in
    let ts = c.args.tokens.now in
    let i = c.loop-i.i in
    let t = get_or ts i no_token in
    let l = c.loop-i-test.true in
    tied_at bytes ts i c.args.names.now c.loop-i.names (sentences c.loop-i.commands.items) (state c.loop-i.state) c.loop-i.invariant.came c.loop-i.invariant.named
    t c.turn.new.names l (token_at ts i no_token t l) c.in-Err.ensures.kept (rw c.piece-text.ensures at c.in-Err.ensures.parts)

pub returns-then-whole-clause-tied : goal.returns-then-whole-clause-tied
returns-then-whole-clause-tied c =
    tied c.args.bytes.now c.args.tokens.now c.loop-i.i c.args.names.now c.loop-i.names (sentences c.loop-i.commands.items) (state c.loop-i.state)
    c.loop-i.invariant.came c.loop-i.invariant.named

pub returns-else-whole-clause-tied : goal.returns-else-whole-clause-tied
returns-else-whole-clause-tied c =
    tied c.args.bytes.now c.args.tokens.now c.loop-i.i c.args.names.now c.loop-i.names (sentences c.loop-i.commands.items) (state c.loop-i.state)
    c.loop-i.invariant.came c.loop-i.invariant.named

pub returns-in_err-push-in-Ok-finished-clause-tied : goal.returns-in_err-push-in-Ok-finished-clause-tied
returns-in_err-push-in-Ok-finished-clause-tied c =
    let bytes = c.args.bytes.now in
    let ts = c.args.tokens.now in
    let i = c.loop-i.i in
    let t = get_or ts i no_token in
    let l = c.loop-i-test.true in
    tied_at bytes ts i c.args.names.now c.loop-i.names (sentences c.loop-i.commands.items) (state c.loop-i.state) c.loop-i.invariant.came c.loop-i.invariant.named
    t c.turn.new.names l (token_at ts i no_token t l) c.in-Ok.ensures.kept (rw c.piece-text.ensures at c.in-Ok.ensures.parts)
