-- Inner: what the walk over an image's functions says of the one at a cell: where its parts stand, that they are the function's, and what is behind it.
use Rattle.std.specs.Prelude.{◌≡◌, List, ◌∷◌, ℕ, ◌+◌, ◌-◌, ◌*◌, ◌/◌, ◌≤◌, length, take, drop}
use Rattle.cells.specs.Cells.{cells}
use Rattle.cells.specs.Functions.{function_of, function_from, functions}
use Rattle.cells.specs.declared.walk.Span.{Span}

-- the bytes from a to b, `&s[a..b]`
abbrev pub part : List ℕ → ℕ → ℕ → List ℕ
part s a b = take (b - a) (drop a s)

pub record SpanAt (s : List ℕ) (at : ℕ) (r : Span) : Type 0 where
  -- the head is the cell at; the parts are as long as those of the function
  pub head : r.head ≡ 16 * at
  pub code : r.code ≡ 16 * at + 16
  pub events : r.events ≡ r.code + 16 * length (function_from (cells s) at).code
  pub end : r.end ≡ r.events + 16 * length (function_from (cells s) at).events
  pub within : r.end ≤ length s
  -- and are the function's
  pub is : function_of (part s r.head r.code) (part s r.code r.events) (part s r.events r.end) ≡ function_from (cells s) at
  -- the functions from here on: this one, then those from its end on
  pub next : functions (drop at (cells s)) ≡ function_from (cells s) at ∷ functions (drop (r.end / 16) (cells s))
