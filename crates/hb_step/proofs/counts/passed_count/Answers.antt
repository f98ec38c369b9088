use Rattle.std.proofs.Common.{arith, refl}
use Rattle.hb_base.specs.declared.count.Count.TheVariants.{Declarations, Fields, Nodes}
use Rattle.hb_calculus.specs.Declarations.{fields_of}
use Rattle.hb_env.specs.Plain.{plain}
use Rattle.hb_step.proofs.CountLemmas.{next, passed}
use Rattle.hb_step.proofs.counts.passed_count.Goals as goal

pub returns-then-declared-ge-MAX_DECLARATIONS : goal.returns-then-declared-ge-MAX_DECLARATIONS
returns-then-declared-ge-MAX_DECLARATIONS c = record {
  passed =
      passed
      c.args.env.now
      c.args.decls.now
      c.loop-decl.decl-index
      c.loop-decl.declared
      (fields_of (plain c.decl-item.result))
      c.loop-decl.nodes
      c.saturating_add-nodes.result
      c.decl-item.result
      Declarations
      c.loop-decl-test.true
      c.decl-item.is
      refl
      (omega (arith, c.nodes.ensures, c.saturating_add-nodes.ensures))
      c.loop-decl.invariant
      c.if-declared-ge-MAX_DECLARATIONS.true;
}

pub returns-then-field_count-gt-MAX_FIELDS : goal.returns-then-field_count-gt-MAX_FIELDS
returns-then-field_count-gt-MAX_FIELDS c = record {
  passed =
      passed
      c.args.env.now
      c.args.decls.now
      c.loop-decl.decl-index
      c.loop-decl.declared
      (fields_of (plain c.decl-item.result))
      c.loop-decl.nodes
      c.saturating_add-nodes.result
      c.decl-item.result
      Fields
      c.loop-decl-test.true
      c.decl-item.is
      refl
      (omega (arith, c.nodes.ensures, c.saturating_add-nodes.ensures))
      c.loop-decl.invariant
      (omega (arith, c.if-declared-ge-MAX_DECLARATIONS.false), omega (arith, c.field_count.ensures, c.if-field_count-gt-MAX_FIELDS.true));
}

pub returns-then-nodes-gt-MAX_NODES : goal.returns-then-nodes-gt-MAX_NODES
returns-then-nodes-gt-MAX_NODES c = record {
  passed =
      passed
      c.args.env.now
      c.args.decls.now
      c.loop-decl.decl-index
      c.loop-decl.declared
      (fields_of (plain c.decl-item.result))
      c.loop-decl.nodes
      c.saturating_add-nodes.result
      c.decl-item.result
      Nodes
      c.loop-decl-test.true
      c.decl-item.is
      refl
      (omega (arith, c.nodes.ensures, c.saturating_add-nodes.ensures))
      c.loop-decl.invariant
      (omega (arith, c.if-declared-ge-MAX_DECLARATIONS.false), omega (arith, c.field_count.ensures, c.if-field_count-gt-MAX_FIELDS.false), omega (arith, c.if-nodes-gt-MAX_NODES.true));
}

pub loop-decl-preserved : goal.loop-decl-preserved
loop-decl-preserved c =
    next
    c.args.env.now
    c.args.decls.now
    c.loop-decl.decl-index
    c.loop-decl.declared
    c.loop-decl.nodes
    c.saturating_add-nodes.result
    c.decl-item.result
    c.loop-decl-test.true
    c.decl-item.is
    (omega (arith, c.nodes.ensures, c.saturating_add-nodes.ensures))
    c.loop-decl.invariant
