-- Terms whose normal forms are related, are related.
use Rattle.std.proofs.Common.{◌≡◌, List}
use Rattle.hb_tree.specs.Tree.{Tree}
use Rattle.hb_calculus.specs.Declarations.{Decl}
use Rattle.hb_calculus.specs.Conversion.{Convertible, back, chain, Below, equal, through, Ordered}
use Rattle.hb_calculus.specs.Sequence.{IsNormalForm}
use Rattle.hb_calculus.proofs.Stages.{conv-equal, normal_form-convertible, ordered-below}

pub convertible-same : (E : List Decl) (a b : Tree) → a ≡ b → Convertible E a b
convertible-same = conv-equal

pub below-same : (E : List Decl) (a b : Tree) → a ≡ b → Below E a b
below-same E a b e = equal (conv-equal E a b e)

pub convertible-joined : (E : List Decl) (a b x y : Tree) → IsNormalForm E a x → IsNormalForm E b y → x ≡ y → Convertible E a b
convertible-joined E a b x y h g e =
    chain (normal_form-convertible E a x h) (chain (conv-equal E x y e) (back (normal_form-convertible E b y g)))

pub below-joined : (E : List Decl) (a b x y : Tree) → IsNormalForm E a x → IsNormalForm E b y → Ordered x y → Below E a b
below-joined E a b x y h g o =
    through (equal (normal_form-convertible E a x h)) (through (ordered-below E x y o) (equal (back (normal_form-convertible E b y g))))
