-- Inner: what the functions inside say to each other: the code's one table of names, and room for the lines of a cell, a part and a function.
use Rattle.std.specs.Prelude.{ℕ, ◌+◌, ◌≤◌, ◌<◌, ◌≡◌, List, ◌++◌, map, length}
use Prim.Native.String.{String}
use Rattle.cells.specs.Bytes.{byte}
use Rattle.cells.specs.Cells.{Cell, flat}
use Rattle.cells.specs.Functions.{Function, there}
use Rattle.cells.specs.Lists.{All}
use Rattle.cells.specs.Names.{command_names, event_names, name_of}
use Rattle.cells.specs.declared.walk.Part.{Part}
use Rattle.cells.specs.declared.walk.Part.TheVariants.{Code, Events}
use Rattle.listing.specs.Decimal.{decimal}
use Rattle.listing.specs.Places.{ascii, fill, fill_left}
use Rattle.pages.specs.Pages.{entry_lines, part_lines, function_lines}

-- ---- the table of names as the code has it: those of the commands, then those of the events' kinds, 18 bytes each

abbrev pub all_names : List String
all_names = command_names ++ event_names

abbrev pub wide_name : String → List ℕ
wide_name n = fill 18 (ascii n)

abbrev pub name_table : List ℕ
name_table = flat (map wide_name all_names)

-- the row of a cell's name there
abbrev pub name_row : Part → Cell → ℕ
name_row Code c = byte c 0
name_row Events c = 82 + byte c 0

-- a cell that has a name: a command up to 51, an event's kind up to 1
abbrev pub Named : Part → Cell → Type 0
Named Code c = byte c 0 < 82
Named Events c = byte c 0 < 2

-- a cell that has a line
abbrev pub Listable : Part → Cell → Type 0
Listable p c = Named p c × (length c ≡ 16)

-- a function whose cells have; no position has more than four digits
pub record ListableFunction (f : Function) : Type 0 where
  pub code : All (Listable Code) f.code
  pub events : All (Listable Events) f.events
  pub few : there f ≤ 4096

-- a cell's line up to its name
abbrev pub cell_title : Part → ℕ → Cell → List ℕ
cell_title p position c = fill_left 5 (decimal position) ++ ascii "  " ++ fill 18 (ascii (name_of p c))

-- ---- room in a text from a position on

pub record EntryRoom (p : Part) (name position : ℕ) (c : Cell) (text : List ℕ) (at : ℕ) : Type 0 where
  pub listable : Listable p c
  pub few : position < 4096
  pub room : at + length (flat (entry_lines p name position c)) ≤ length text

pub record PartRoom (p : Part) (name position : ℕ) (cs : List Cell) (text : List ℕ) (at : ℕ) : Type 0 where
  pub listable : All (Listable p) cs
  pub few : position + length cs ≤ 4096
  pub room : at + length (flat (part_lines p name position cs)) ≤ length text

pub record FunctionRoom (f : Function) (text : List ℕ) (at : ℕ) : Type 0 where
  pub listable : ListableFunction f
  pub room : at + length (flat (function_lines f)) ≤ length text
