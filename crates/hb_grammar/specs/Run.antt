-- A run of the reader over a whole file.
use Rattle.std.specs.Prelude.{List, [], ◌∷◌, ◌++◌, Option, Some, None}
use Rattle.hb_raw.specs.Sentence.{Sentence}
use Rattle.hb_grammar.specs.Leaf.{Leaf}
use Rattle.hb_grammar.specs.Machine.{State, begin, done, step, read}
use Rattle.hb_grammar.specs.Places.{Seen, seen}

-- the leaves of the tokens that are left, and all sentences
pub data Outcome : Type 0 where
  outcome : List Leaf → List Sentence → Outcome

abbrev pub behind_leaf_of : Leaf → Option Outcome → Option Outcome
behind_leaf_of l None = None
behind_leaf_of l (Some (outcome ls cs)) = Some (outcome (l ∷ ls) cs)

-- at the end of the tokens
abbrev pub finish : List Sentence → State → Option Outcome
finish cs begin = Some (outcome [] cs)
finish cs (done c) = Some (outcome [] (cs ++ (c ∷ [])))
finish cs s = None

abbrev pub run : List Sentence → Option State → List Seen → Option Outcome
run cs None ts = None
run cs (Some s) [] = finish cs s
run cs (Some (done c)) (seen m w ∷ ts) = behind_leaf_of (read begin m w) (run (cs ++ (c ∷ [])) (step begin m w) ts)
run cs (Some s) (seen m w ∷ ts) = behind_leaf_of (read s m w) (run cs (step s m w) ts)
