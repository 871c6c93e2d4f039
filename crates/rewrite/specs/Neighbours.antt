-- Worked: functions side by side (document 02, W12), through the whole rewrite with the default rules and both ways round: pairs of which one would change
-- the other if anything were carried over from a function to the next. One table; the theorem of all its rows is in proofs/Alone.
use Rattle.std.specs.Prelude.{List, [], ◌∷◌, ℕ, ◌+◌, length}
use Rattle.cells.specs.Assembler.{Head, Label, Jmp, Ret, LoadBool, LoadI32, AddI32, Assert, site, no_site, StoreVarSited, MakeRecord, Borrow, Write}
use Rattle.cells.specs.Cells.{Cell}
use Rattle.cells.specs.Functions.{Function}
use Rattle.crystalfold.specs.Rules.{default_rules}
use Rattle.rewrite.specs.AllFunctions.{rewrite_all, rewrite_count_all}

-- a function as sent, as handed back where it stands alone, and its count
pub record Alone : Type 0 where
  pub sent : Function
  pub back : Function
  pub count : ℕ

-- of the instruction cells and events that are sent, and those handed back
abbrev pub named : List Cell → List Cell → Function
named cs es = record { head = Head 7 (length cs) (length es); code = cs; events = es }

abbrev pub alone : List Cell → List Cell → List Cell → List Cell → ℕ → Alone
alone cs es ds fs n = record { sent = named cs es; back = named ds fs; count = n }

-- without events: one that changes, and one that stays
abbrev pub becomes : List Cell → List Cell → ℕ → Alone
becomes cs ds n = alone cs [] ds [] n

abbrev pub stays : List Cell → Alone
stays cs = becomes cs cs 0

-- two functions, and the two the other way round
pub record Pair : Type 0 where
  pub one : Alone
  pub other : Alone

abbrev pub beside : Alone → Alone → Pair
beside a b = record { one = a; other = b }

abbrev pub pairs : List Pair
pairs =
    -- a register known at the end of one is not known in the other
    beside (stays (LoadI32 1 5 ∷ [])) (stays (AddI32 2 1 1 ∷ []))
    ∷ beside (becomes (LoadI32 1 5 ∷ AddI32 2 1 1 ∷ []) (LoadI32 1 5 ∷ LoadI32 2 10 ∷ []) 1) (stays (AddI32 3 2 1 ∷ []))
    -- behind a function that ends in Jmp or Ret nothing is unreachable
    ∷ beside (stays (Jmp 9 ∷ [])) (stays (Assert 1 ∷ Ret 2 ∷ []))
    ∷ beside (stays (Assert 1 ∷ Ret 2 ∷ [])) (becomes (Assert 3 ∷ Ret 4 ∷ Assert 5 ∷ []) (Assert 3 ∷ Ret 4 ∷ []) 1)
    -- a label just kept in one is no label just kept in the other
    ∷ beside (stays (Label 1 ∷ [])) (becomes (Label 1 ∷ Label 1 ∷ []) (Label 1 ∷ []) 1)
    -- a Jmp at the end of one has no next cell, though its label stands first in the other; nor has a load
    ∷ beside (stays (Assert 1 ∷ Jmp 1 ∷ [])) (stays (Label 1 ∷ Assert 1 ∷ []))
    ∷ beside (stays (LoadI32 1 5 ∷ [])) (becomes (LoadI32 1 6 ∷ LoadBool 1 1 ∷ []) (LoadBool 1 1 ∷ []) 1)
    -- events go with the sites of their own function: both have the sites 9 and 5, and in one the StoreVar is unreachable
    ∷ beside
    (alone (Ret 1 ∷ StoreVarSited (site 9) (site 5) ∷ []) (Borrow (site 9) no_site ∷ Write no_site (site 5) ∷ []) (Ret 1 ∷ []) [] 1)
    (alone (StoreVarSited (site 9) (site 5) ∷ []) (Borrow (site 9) no_site ∷ Write no_site (site 5) ∷ []) (StoreVarSited (site 9) (site 5) ∷ []) (Borrow (site 9) no_site ∷ Write no_site (site 5) ∷ []) 0)
    -- with events between them, and beside one without cells
    ∷ beside (alone (MakeRecord (site 5) ∷ LoadI32 1 5 ∷ []) (Write no_site (site 5) ∷ []) (MakeRecord (site 5) ∷ LoadI32 1 5 ∷ []) (Write no_site (site 5) ∷ []) 0) (stays (AddI32 2 1 1 ∷ []))
    ∷ beside (stays []) (becomes (Label 1 ∷ Label 1 ∷ []) (Label 1 ∷ []) 1)
    ∷ beside (stays []) (stays [])
    ∷ []

-- the functions handed back of two, and of the two the other way round, with the counts
pub record HandedBack : Type 0 where
  pub back : List Function
  pub count : ℕ
  pub turned : List Function
  pub turned_count : ℕ

abbrev pub as_rewritten : Pair → HandedBack
as_rewritten c =
    let forth : List Function = c.one.sent ∷ c.other.sent ∷ [] in
    let turned : List Function = c.other.sent ∷ c.one.sent ∷ [] in
    record { back = rewrite_all default_rules forth; count = rewrite_count_all default_rules forth; turned = rewrite_all default_rules turned; turned_count = rewrite_count_all default_rules turned }

abbrev pub expected : Pair → HandedBack
expected c = record {
  back = c.one.back ∷ c.other.back ∷ [];
  count = c.one.count + c.other.count;
  turned = c.other.back ∷ c.one.back ∷ [];
  turned_count = c.one.count + c.other.count;
}
