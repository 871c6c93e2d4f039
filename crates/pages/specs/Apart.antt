-- Promise: pages tell images apart (document 02, W1): what the rule meeting read is what is sealed. The theorems: pages/proofs/Apart.antt.
use Rattle.std.specs.Prelude.{ℕ, ◌<◌, ◌≡◌, true, List, length, take}
use Rattle.cells.specs.Lists.{All}
use Rattle.image.specs.SiteCheck.{SitesPass}
use Rattle.pages.specs.Pages.{pages_text}
use Rattle.pages.specs.Promises.{is_laid, length_laid, pages_answer, pages_output}

-- bytes: the definitions read any numbers, an image has bytes
abbrev pub Bytes : List ℕ → Type 0
Bytes s = All (λ (b : ℕ). b < 256) s

-- no two accepted images have the same pages
abbrev pub PagesTellApart : Type 0
PagesTellApart = (s t : List ℕ) → Bytes s → Bytes t → SitesPass s → SitesPass t → pages_text s ≡ pages_text t → s ≡ t

-- the same of the operation, whatever the buffers u and v held: if it lays out both images and writes the same bytes, they are one image
abbrev pub WrittenTellApart : Type 0
WrittenTellApart =
    (s t u v : List ℕ) → Bytes s → Bytes t → is_laid (pages_answer s (length u)) ≡ true → is_laid (pages_answer t (length v)) ≡ true
    → take (length_laid (pages_answer s (length u))) (pages_output s u) ≡ take (length_laid (pages_answer t (length v))) (pages_output t v) → s ≡ t
