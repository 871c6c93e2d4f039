-- Worked: texts: document 01's printed example, the empty image, refusals, and a check's answers; texts and numbers in a number of places.
use Rattle.std.specs.Prelude.{◌≡◌, refl, List, [], ◌∷◌, ◌++◌, map, ℕ, replicate, Ok, Err}
use Rattle.cells.specs.Assembler.{Head, LoadI32, Ret}
use Rattle.cells.specs.Cells.{Cell}
use Rattle.cells.specs.declared.refusal.Refusal.TheVariants.{UnknownCommand, ActivationSitesDiffer}
use Rattle.listing.specs.Decimal.{decimal}
use Rattle.listing.specs.Places.{ascii, fill, fill_left, digits, place_of}
use Rattle.listing.specs.Text.{rewrites_line, rewritten_text, refused_text, refusal_text, good_text, checked_text}
use Rattle.cells.specs.Checked.{Checked}

-- what is printed: cells and a count, a refusal's number, position and detail, or a check's answer
pub data Printed : Type 0 where
  rewritten : List Cell → ℕ → Printed
  refused : ℕ → ℕ → ℕ → Printed
  checked : Checked → Printed

pub text_of : Printed → List ℕ
text_of (rewritten cs count) = rewritten_text cs count
text_of (refused number position detail) = refused_text number position detail
text_of (checked r) = checked_text r

pub record TextCase : Type 0 where
  pub printed : Printed
  pub text : List ℕ

-- zeros of a line, and its end
zeros : ℕ → List ℕ
zeros n = replicate n 48 ++ 10 ∷ []

pub cases : List TextCase
cases =
    -- LoadI32 r1 5, AddI32 r2 r1 r1, Ret r2 in function 7, as rewritten:
    --   F0070003000000000000000000000000
    --   2B010005000000000000000000000000
    --   2B02000A000000000000000000000000
    --   0C010200000000000000000000000000
    --   rewrites 1
    record {
      printed = rewritten (
          Head 7 3 0 ∷ LoadI32 1 5 ∷ LoadI32 2 10 ∷ Ret 2 ∷ []
          ) 1;
      text = (70 ∷ 48 ∷ 48 ∷ 55 ∷ 48 ∷ 48 ∷ 48 ∷ 51 ∷ zeros 24) ++ (50 ∷ 66 ∷ 48 ∷ 49 ∷ 48 ∷ 48 ∷ 48 ∷ 53 ∷ zeros 24)
          ++ (50 ∷ 66 ∷ 48 ∷ 50 ∷ 48 ∷ 48 ∷ 48 ∷ 65 ∷ zeros 24) ++ (48 ∷ 67 ∷ 48 ∷ 49 ∷ 48 ∷ 50 ∷ zeros 26)
          ++ (114 ∷ 101 ∷ 119 ∷ 114 ∷ 105 ∷ 116 ∷ 101 ∷ 115 ∷ 32 ∷ 49 ∷ 10 ∷ []);
    }
    -- the empty image: `rewrites 0`
    ∷ record { printed = rewritten [] 0; text = 114 ∷ 101 ∷ 119 ∷ 114 ∷ 105 ∷ 116 ∷ 101 ∷ 115 ∷ 32 ∷ 48 ∷ 10 ∷ [] }
    -- a length above the limit: `refused 1 0 0`
    ∷ record { printed = refused 1 0 0; text = 114 ∷ 101 ∷ 102 ∷ 117 ∷ 115 ∷ 101 ∷ 100 ∷ 32 ∷ 49 ∷ 32 ∷ 48 ∷ 32 ∷ 48 ∷ 10 ∷ [] }
    -- an event's site on no command, in the third function: `refused 26 2 4294967295`
    ∷ record {
      printed = refused 26 2 4294967295;
      text = 114 ∷ 101 ∷ 102 ∷ 117 ∷ 115 ∷ 101 ∷ 100 ∷ 32 ∷ 50 ∷ 54 ∷ 32 ∷ 50 ∷ 32 ∷ 52 ∷ 50 ∷ 57 ∷ 52 ∷ 57 ∷ 54 ∷ 55 ∷ 50 ∷ 57 ∷ 53 ∷ 10 ∷ [];
    }
    -- a check that passes: `good`
    ∷ record { printed = checked (Ok tt); text = 103 ∷ 111 ∷ 111 ∷ 100 ∷ 10 ∷ [] }
    -- a command that is none, the third function's cell 12: `refused 3 2 12`
    ∷ record {
      printed = checked (Err (UnknownCommand 2 12));
      text = 114 ∷ 101 ∷ 102 ∷ 117 ∷ 115 ∷ 101 ∷ 100 ∷ 32 ∷ 51 ∷ 32 ∷ 50 ∷ 32 ∷ 49 ∷ 50 ∷ 10 ∷ [];
    }
    -- sets of activation sites that differ have no detail: `refused 14 4095 0`
    ∷ record {
      printed = checked (Err (ActivationSitesDiffer 4095));
      text = 114 ∷ 101 ∷ 102 ∷ 117 ∷ 115 ∷ 101 ∷ 100 ∷ 32 ∷ 49 ∷ 52 ∷ 32 ∷ 52 ∷ 48 ∷ 57 ∷ 53 ∷ 32 ∷ 48 ∷ 10 ∷ [];
    }
    ∷ []

pub worked : map (λ (c : TextCase). text_of c.printed) cases ≡ map (λ (c : TextCase). c.text) cases
unfolding text_of zeros cases decimal rewrites_line rewritten_text refused_text refusal_text good_text
worked = refl

-- ---- in places: a text by its bytes; from the left, where it fits exactly, and where it is longer; numbers behind blanks, and in digits, of
-- which a longer number keeps the last; single places of a number

pub in_places :
    (ascii "page 1" ≡ 112 ∷ 97 ∷ 103 ∷ 101 ∷ 32 ∷ 49 ∷ [])
    × (map (λ (n : ℕ). fill n (ascii "Ret")) (5 ∷ 3 ∷ 2 ∷ []) ≡ ascii "Ret  " ∷ ascii "Ret" ∷ ascii "Ret" ∷ [])
    × (map (λ (n : ℕ). fill_left 5 (decimal n)) (0 ∷ 9 ∷ 10 ∷ 3071 ∷ 99999 ∷ []) ≡ ascii "    0" ∷ ascii "    9" ∷ ascii "   10" ∷ ascii " 3071" ∷ ascii "99999" ∷ [])
    × (map (digits 5) (0 ∷ 7 ∷ 65535 ∷ []) ≡ ascii "00000" ∷ ascii "00007" ∷ ascii "65535" ∷ [])
    × (map (digits 3) (1 ∷ 63 ∷ 999 ∷ 1000 ∷ []) ≡ ascii "001" ∷ ascii "063" ∷ ascii "999" ∷ ascii "000" ∷ [])
    × (digits 0 7 ≡ [])
    × (map (place_of 3071) (10000 ∷ 1000 ∷ 100 ∷ 10 ∷ []) ≡ ascii " 307")
    × (map (place_of 10) (100 ∷ 10 ∷ []) ≡ ascii " 1")
unfolding decimal
in_places = (refl, refl, refl, refl, refl, refl, refl, refl)
