-- Promise: how a release holds its images (document 02, W9): "images, each after a length of 4 bytes", little-endian as every number.
use Rattle.std.specs.Prelude.{ℕ, zero, suc, ◌+◌, Bool, cond, List, [], ◌∷◌, ◌++◌, eqb, leb, length, take, drop, Option, Some, None}
use Rattle.cells.specs.Bytes.{word, bytes}

-- an image by its bytes, whatever they are
abbrev pub Image : Type 0
Image = List ℕ

-- an image behind its length
abbrev pub frame : Image → List ℕ
frame i = bytes 4 (length i) ++ i

-- images one after another, each behind its length
abbrev pub framed : List Image → List ℕ
framed [] = []
framed (i ∷ is) = frame i ++ framed is

-- ---- the images that bytes hold

-- the length at the start and the image behind it lie within the bytes. Of fewer than four bytes they don't, whatever these are
abbrev pub ends : List ℕ → Bool
ends s = leb (4 + word s 0) (length s)

abbrev pub first_image : List ℕ → Image
first_image s = take (word s 0) (drop 4 s)

abbrev pub behind_first : List ℕ → List ℕ
behind_first s = drop (4 + word s 0) s

abbrev pub join : Image → Option (List Image) → Option (List Image)
join i None = None
join i (Some is) = Some (i ∷ is)

-- no bytes are left
abbrev pub at_end : List ℕ → Bool
at_end s = eqb (length s) 0

-- image by image up to the end of the bytes; none where "a length or image" is "past the end". No more than n images are read, which decides nothing
-- where there are at most n bytes: each image takes four or more
unfoldable pub images_within : ℕ → List ℕ → Option (List Image)
images_within zero s = Some []
images_within (suc n) s = cond (at_end s) (Some []) (cond (ends s) (join (first_image s) (images_within n (behind_first s))) None)

unfoldable pub images_of : List ℕ → Option (List Image)
images_of s = images_within (length s) s

-- how many there are
abbrev pub count_as : Option (List Image) → Option ℕ
count_as None = None
count_as (Some is) = Some (length is)
