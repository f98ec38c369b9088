-- What is open around a term, frame by frame.
use Rattle.std.specs.Prelude.{List, [], ◌∷◌, map, option_map}
use Rattle.hb_raw.specs.Preterm.{Group}
use Rattle.hb_raw.specs.Views.{term, groups, field}
use Rattle.hb_grammar.specs.Part.{Part, product_part, function_part}
use Rattle.hb_grammar.specs.Machine as plain
use Rattle.hb_reader.specs.declared.frame.Opener.{Opener}
use Rattle.hb_reader.specs.declared.frame.Opener.TheVariants.{Forall, Fun}
use Rattle.hb_reader.specs.declared.frame.Frame.{Frame}
use Rattle.hb_reader.specs.declared.frame.Frame.TheVariants.{Right, Inside, Casting, Lone, GroupType, Body}
use Rattle.hb_reader.specs.declared.frame.Base.{Base}
use Rattle.hb_reader.specs.declared.frame.Base.TheVariants.{AxiomType, DefinitionGroup, DefinitionType, DefinitionBody, FieldType, InstanceValue, BuildValue, CarrierFound}
use Rattle.hb_reader.specs.declared.frame.Nesting.{Nesting}
use Rattle.hb_reader.specs.declared.stack.Kept.{Kept}
use Rattle.hb_reader.specs.Measures.{counted}
use Rattle.hb_reader.specs.Views.{part, before, record_of, instance_of, bound_in}

-- the word that begins binders, with what is around it
abbrev pub opener_of : Opener → plain.Stack → plain.Binding
opener_of (Forall x) k = plain.of_product x k
opener_of (Fun x) k = plain.of_function x k

-- the term that it begins
abbrev pub bound_part : Opener → List Group → Part → Part
bound_part (Forall x) gs p = product_part x gs p
bound_part (Fun x) gs p = function_part x gs p

-- one frame, with what is around it
abbrev pub frame_of : Frame → plain.Stack → plain.Stack
frame_of (Right a) k = plain.right (part a) k
frame_of (Inside b x) k = plain.inside (before b) x k
frame_of (Casting b x t) k = plain.casting (before b) x (part t) k
frame_of (Lone o xs) k = plain.lone (opener_of o k) xs.items
frame_of (GroupType o gs xs) k = plain.group_type (opener_of o k) (groups gs.items) (bound_in (groups gs.items)) xs.items
frame_of (Body o gs) k = plain.body (opener_of o k) (groups gs.items) (bound_in (groups gs.items))

-- what a term is in its sentence
abbrev pub base_of : Base → plain.Stack
base_of (AxiomType x n) = plain.axiom_type x n
base_of (DefinitionGroup x n gs xs) =
    plain.group_type (plain.of_definition x n) (groups gs.items) (bound_in (groups gs.items)) xs.items
base_of (DefinitionType x n gs) = plain.definition_type x n (groups gs.items) (bound_in (groups gs.items))
base_of (DefinitionBody x n gs t) =
    plain.definition_body x n (groups gs.items) (bound_in (groups gs.items)) (option_map term t)
base_of (FieldType r fs f) = plain.field_type (record_of r) (map field fs.items) f
base_of (InstanceValue i f k ws) = plain.instance_value (instance_of i) f k ws.items
base_of (BuildValue i f k ws) = plain.build_value (instance_of i) f k ws.items
base_of (CarrierFound x s) = plain.carrier_found x s

-- frames on what is around them, the innermost last
abbrev pub frames_on : plain.Stack → List Kept → plain.Stack
frames_on k [] = k
frames_on k (f ∷ fs) = frames_on (frame_of f.frame k) fs

-- the nesting in a stack, and that of what closes its term, as the code counts them
abbrev pub nesting_of : plain.Stack → Nesting
nesting_of k = record { within = counted (plain.depth k); closing = counted (plain.closing k) }

-- the nesting around each of the frames
abbrev pub around_each : plain.Stack → List Kept → List Nesting
around_each k [] = []
around_each k (f ∷ fs) = nesting_of k ∷ around_each (frame_of f.frame k) fs
