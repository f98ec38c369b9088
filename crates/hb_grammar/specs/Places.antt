-- What a list of tokens reads as, and where it stops being the beginning of a file: by the grammar
-- alone.
use Rattle.std.specs.Prelude.{◌≡◌, ℕ, ◌+◌, ◌-◌, ◌<◌, ◌≤◌, ◌⊎◌, List, [], ◌∷◌, ◌++◌, length, map, take, All}
use Rattle.hb_raw.specs.Sentence.{Sentence}
use Rattle.hb_grammar.specs.declared.mark.Mark.{Mark}
use Rattle.hb_grammar.specs.Leaf.{Sign, Leaf, leaf, late}
use Rattle.hb_grammar.specs.Grammar.{IsFile}

-- a token: a leaf without its numbers
pub data Seen : Type 0 where
  seen : Mark → Sign → Seen

abbrev pub token : Leaf → Seen
token (leaf m w d n) = seen m w
token (late m w d n) = seen m w

abbrev pub tokens : List Leaf → List Seen
tokens = map token

abbrev pub nesting : Leaf → ℕ
nesting (leaf m w d n) = d
nesting (late m w d n) = d

abbrev pub argument_of : Leaf → ℕ
argument_of (leaf m w d n) = n
argument_of (late m w d n) = n

-- the greatest nesting, and the most arguments of an application
pub record Most : Type 0 where
  pub nested : ℕ
  pub applied : ℕ

abbrev pub IsWithin : Most → Leaf → Type 0
IsWithin most l = (nesting l ≤ most.nested) × (argument_of l ≤ most.applied)

-- the leaves begin a file
abbrev pub BeginsFile : List Leaf → Type 0
BeginsFile ls = (more : List Leaf) × (cs : List Sentence) × IsFile (ls ++ more) cs []

-- the tokens read as these sentences, within the limits
pub record Reads (most : Most) (ts : List Seen) (cs : List Sentence) : Type 0 where
  pub leaves : List Leaf
  pub are : tokens leaves ≡ ts
  pub within : All (IsWithin most) leaves
  pub file : IsFile leaves cs []

-- the tokens begin a file, within the limits
pub record Front (most : Most) (ts : List Seen) : Type 0 where
  pub leaves : List Leaf
  pub are : tokens leaves ≡ ts
  pub within : All (IsWithin most) leaves
  pub begins : BeginsFile leaves

-- The first token without a way on: the tokens before it begin a file; with it, or at the end,
-- they don't.
pub data SyntaxAt (most : Most) (ts : List Seen) (at : ℕ) : Type 0 where
  at_token : at < length ts → Front most (take at ts) → ((ls : List Leaf) → tokens ls ≡ take (at + 1) ts → ¬ (BeginsFile ls))
      → SyntaxAt most ts at
  at_end : at ≡ length ts → Front most ts → ((ls : List Leaf) (cs : List Sentence) → tokens ls ≡ ts → ¬ (IsFile ls cs []))
      → SyntaxAt most ts at

-- where an argument of the leaf at place n begins: one that is `late` began a token before
abbrev pub place_of : Leaf → ℕ → ℕ
place_of (leaf m w d k) n = n
place_of (late m w d k) n = n - 1

-- The first token that passes a limit: the tokens up to it begin a file, and those before it are
-- within the limits.
pub data DeepAt (most : Most) (ts : List Seen) (at : ℕ) : Type 0 where
  deep : (ls : List Leaf) (l : Leaf) → tokens (ls ++ (l ∷ [])) ≡ take (length ls + 1) ts → at ≡ place_of l (length ls)
      → All (IsWithin most) ls → ¬ (IsWithin most l) → BeginsFile (ls ++ (l ∷ [])) → DeepAt most ts at

-- The law: a list of tokens has at most one list of sentences, with one nesting for each token.
abbrev pub OneReading : Type 0
OneReading = (ls ms : List Leaf) (cs ds : List Sentence)
    → IsFile ls cs [] → IsFile ms ds [] → tokens ls ≡ tokens ms → (ls ≡ ms) × (cs ≡ ds)

-- The law: a list of tokens reads as sentences within the limits, or has a first token without a
-- way on, or a first one that passes a limit.
abbrev pub EachHasAnswer : Type 0
EachHasAnswer = (most : Most) (ts : List Seen)
    → ((cs : List Sentence) × Reads most ts cs) ⊎ (((at : ℕ) × SyntaxAt most ts at) ⊎ ((at : ℕ) × DeepAt most ts at))
