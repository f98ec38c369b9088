-- The stack that the reader's frames stand for.
use Rattle.std.specs.Prelude.{ℕ, ◌+◌, length}
use Rattle.hb_grammar.specs.Machine as plain
use Rattle.hb_reader.specs.declared.stack.Stack.{Stack}
use Rattle.hb_reader.specs.declared.stack.Binding.{Binding}
use Rattle.hb_reader.specs.declared.stack.Binding.TheVariants.{Product, Function, Definition}
use Rattle.hb_reader.specs.declared.stack.Innermost.{Innermost}
use Rattle.hb_reader.specs.declared.stack.Innermost.TheVariants as innermost
use Rattle.hb_reader.specs.Frames.{frame_of, base_of, frames_on}

abbrev pub stack : Stack → plain.Stack
stack s = frames_on (base_of s.base) s.frames.items

abbrev pub binding : Binding → plain.Binding
binding (Product x k) = plain.of_product x (stack k)
binding (Function x k) = plain.of_function x (stack k)
binding (Definition x n) = plain.of_definition x n

-- a stack whose innermost frame is told apart
abbrev pub parted : Innermost → plain.Stack
parted (innermost.Base b) = base_of b
parted (innermost.Frame f k) = frame_of f (stack k)

-- how many frames there are
abbrev pub height : Stack → ℕ
height s = length s.frames.items

abbrev pub parted_height : Innermost → ℕ
parted_height (innermost.Base b) = 0
parted_height (innermost.Frame f k) = height k + 1
