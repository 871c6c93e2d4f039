-- Inner: what the functions inside the two operations say.
use Rattle.std.specs.Prelude.{ℕ, zero, suc, ◌+◌, ◌-◌, ◌*◌, ◌≡◌, List, [], ◌++◌, cond, ltb, length, take, drop, replicate, Ok, Err}
use Rattle.cells.specs.Cells.{Cell, over}
use Rattle.cells.specs.Check.{code_count, event_count}
use Rattle.cells.specs.declared.refusal.Refusal.TheVariants.{Length}
use Rattle.packed.specs.Form.{Role, Head, Code, promise, role_of, due_behind, row_size, size}
use Rattle.packed.specs.Reading.{Result, bytes, refused, ends, and_then, padded, next_cell, read_cell}
use Rattle.packed.specs.declared.form.Next.{Next}
use Rattle.packed.specs.declared.keep.Counted.{Counted}
use Rattle.packed.specs.Answer.{Packing}
use Rattle.packed.specs.declared.PackingError.TheVariants.{Refused, Ends}

-- how many bytes cells of n rows keep, from the row k on: a hexadecimal digit each, the first row's the lowest
abbrev pub size_digits : ℕ → ℕ → ℕ
size_digits zero k = 0
size_digits (suc n) k = row_size k + 16 * size_digits n (k + 1)

-- the next cell, where so many instruction cells and event cells are promised
pub record NextCell (code events : ℕ) (s : List ℕ) (r : Next) : Type 0 where
  pub keeps : r.size ≡ size (role_of (promise code events)) s
  pub due : promise r.due.code r.due.events ≡ due_behind (promise code events) s

-- ---- packing

-- what is counted at once where the cell c is next: this; or all the events that are promised
abbrev pub counted_at : ℕ → ℕ → Cell → Counted
counted_at (suc n) m c = record { cells = 1; size = size Code c; due = record { code = n; events = m } }
counted_at zero (suc m) c = record { cells = suc m; size = 15 * suc m; due = record { code = 0; events = 0 } }
counted_at zero zero c = record { cells = 1; size = size Head c; due = record { code = code_count c; events = event_count c } }

-- the most that n cells can keep: one head's bytes, and of the others an event's
abbrev pub most_kept : ℕ → ℕ
most_kept zero = 0
most_kept (suc n) = 7 + 15 * n

-- the whole cell over the start of an output, where 16 cells or more are left; else its first k bytes
abbrev pub put_kept : Cell → ℕ → ℕ → List ℕ → List ℕ
put_kept c k left out = cond (ltb left 16) (over (take k c) out) (over c out)

-- ---- unpacking

-- one cell, that takes k bytes
abbrev pub taken : Result → ℕ → Packing
taken (bytes c) k = Ok k
taken (refused x) k = Err (Refused x)
taken (ends p d) k = Err (Ends p d)

-- the next cell of a packed form, in its role
abbrev pub taken_as : Role → ℕ → ℕ → List ℕ → Packing
taken_as r p d s = taken (read_cell r p d s) (size r s)

-- n cells of a role, one after another, from the cell d on, where an image has room for so many more
abbrev pub run_of : Role → ℕ → ℕ → ℕ → ℕ → List ℕ → Result
run_of r zero room p d s = bytes []
run_of r (suc n) zero p d s = refused Length
run_of r (suc n) (suc room) p d s = and_then (read_cell r p d s) (run_of r n room p (d + 1) (drop (size r s) s))

-- all cells
abbrev pub counted : Result → Packing
counted (bytes b) = Ok (length b)
counted (refused x) = Err (Refused x)
counted (ends p d) = Err (Ends p d)

-- the result is an image of so many bytes
pub record Room (t : Result) (n : ℕ) : Type 0 where
  pub image : List ℕ
  pub is : t ≡ bytes image
  pub long : n ≡ length image

-- n cells of a role at the start of s, and how many bytes they take
abbrev pub cells_of : Role → ℕ → List ℕ → List ℕ
cells_of r zero s = []
cells_of r (suc n) s = next_cell r s ++ cells_of r n (drop (size r s) s)

abbrev pub sizes_of : Role → ℕ → List ℕ → ℕ
sizes_of r zero s = 0
sizes_of r (suc n) s = size r s + sizes_of r n (drop (size r s) s)

-- such a run, as the code checks it
abbrev pub taken_run : Role → ℕ → ℕ → ℕ → List ℕ → Packing
taken_run r n p d s = taken (run_of r n (4096 - d) p d s) (sizes_of r n s)

-- a cell over the start of an output; and where there are 16 bytes to copy, and room for the next cell, zeros over the start of that
abbrev pub put_restored : List ℕ → ℕ → List ℕ → List ℕ
put_restored s k out =
    cond (ltb (length s) 16) (over (padded (take k s)) out)
    (cond (ltb (length out) 32) (over (padded (take k s)) out) (over (take k s ++ replicate 16 0) out))
