-- Full makers, by their kinds.
use Rattle.std.proofs.Common.{◌≡◌, ◌≢◌, ◌∙◌, sym, ap, ℕ, ◌+◌, ◌<◌, List, length, arith, eqb-true, refl}
use Rattle.std.specs.Prelude.{Option, Some, None, slice_get, true, ◌==◌, ◌&&◌}
use Rattle.hb_tree.specs.Tree.{Tree, head_of, args_of}
use Rattle.hb_tree.specs.declared.leaves.RecId.{RecId}
use Rattle.hb_calculus.specs.Declarations.{Decl, Record, record_in}
use Rattle.hb_calculus.specs.Contraction.{is_maker}
use Rattle.hb_calculus.proofs.Options.{both}
use Rattle.hb_calculus.proofs.Rules.{maker-is}
use Rattle.hb_reduce.specs.Kinds.{kind, is_built}
use Rattle.hb_reduce.specs.Spines.{SizesAre}
use Rattle.hb_reduce.proofs.KindLemmas.{kind-built}
use Rattle.hb_quick.specs.Looks.{IsFullMaker}

pub full-maker :
    (E : List Decl) (t : Tree) (r : RecId) (p n : ℕ) → SizesAre (record_in (slice_get E r.0)) (Some (p, n)) → n ≢ 0
    → is_built r.0 (p + n) (kind t) ≡ true → IsFullMaker E t r n
full-maker E t r p n s z b = go (record_in (slice_get E r.0)) refl s
  where
    go : (o : Option Record) → record_in (slice_get E r.0) ≡ o → SizesAre o (Some (p, n)) → IsFullMaker E t r n
    go None d h = absurd h
    go (Some R) d h =
        let parts = both (is_maker r.0 (head_of t)) (length (args_of t) == p + n) (sym (kind-built t r.0 (p + n)) ∙ b) in
        let many : length (args_of t) ≡ p + n = eqb-true _ _ parts.1 in
        let x = h.0 in
        let y = h.1 in
        record {
          R = R;
          declared = d;
          head = maker-is r.0 (head_of t) parts.0;
          arguments = omega arith;
          fields = y;
          some = omega (arith, z);
        }
