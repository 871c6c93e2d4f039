-- The claims of `specs/Claim.antt`, and the contracts from what the operations answer and write.
use mathlib.Core.Path.{◌≡◌, refl, ap, sym, ◌∙◌}
use mathlib.Core.List.{List, [], ◌++◌}
use mathlib.Core.Bool.{true, true≢false}
use Prim.Native.Nat.{ℕ, ◌≤◌, ◌<◌}
use native.Mathlib.Omega.{arith}
use borrow.Author.Tests.{leb-true, le-leb, lt-leb}
use lib.Dec.{leb}
use lib.ListN.{length, take, drop}
use Rattle.cells.specs.Cells.{cells, over}
use Rattle.cells.specs.declared.refusal.Refusal.{Refusal}
use Rattle.cells.specs.declared.refusal.Refusal.TheVariants.{OutputTooShort}
use Rattle.cells.proofs.Cells.{length-cells, flat-cells, cells-flat}
use Rattle.cells.proofs.Facts.{by_test}
use Rattle.cells.specs.Functions.{functions}
use Rattle.cells.proofs.Lists.{nothing_in}
use Rattle.cells.proofs.Over.{over_nil, over-take}
use Rattle.image.specs.Image.{image_answer, GoodImage}
use Rattle.image.proofs.Good.{image_good}
use Rattle.packed.specs.Form.{pack_from, packed}
use Rattle.packed.specs.Reading.{Result, bytes, refused, ends, if_good, unpacked}
use Rattle.packed.specs.Operations.{pack_result, unpack_result, answer_of, output_of, Done, PackDone, UnpackDone, is_written, length_written}
use Rattle.packed.specs.Steps.{counted, Room}
use Rattle.packed.specs.Claim.{Wrote, wrote, Writes, UnpackUndoesPack, NeverAlike, PackUndoesUnpack, OneForm, UnpackedPasses, PackNeverLonger}
use Rattle.packed.proofs.Lengths.{packed_shorter}
use Rattle.packed.proofs.Walk.{read_back, read_is, refused-bytes}
use Rattle.packed.proofs.Images.{image_fine, fine_image, fine_full}
use Rattle.std.specs.Prelude.{Ok, Err}
use Rattle.cells.specs.Checked.{Checked}
use Rattle.packed.specs.Answer.{Packing}
use Rattle.packed.specs.declared.PackingError.TheVariants.{Refused, Ends}

-- ---- images and packed forms

pub unpacked-packed : (s : List ℕ) → GoodImage s → unpacked (packed s) ≡ bytes s
unfolding unpacked packed
unpacked-packed s g =
    read_back [] (cells s) 4096 0 0 (image_fine s g) (omega (arith, length-cells s, g.short)) ∙ ap bytes (flat-cells s g.even)

pub packed-unpacked : (s b : List ℕ) → unpacked s ≡ bytes b → GoodImage b × (packed b ≡ s)
unfolding unpacked packed
packed-unpacked s b e =
    let r = read_is 4096 0 0 [] s b e in
    let c : cells b ≡ r.cs = ap cells r.is ∙ cells-flat r.cs (fine_full [] r.cs r.fine) in
    (rw r.is (fine_image r.cs r.fine r.few), ap (pack_from []) c ∙ r.packs)

-- ---- results

pack_good : (s : List ℕ) → GoodImage s → pack_result s ≡ bytes (packed s)
unfolding pack_result
pack_good s g = ap (λ (r : Checked). if_good r (packed s)) ((image_good s).1 g)

pack_by : (s b : List ℕ) (r : Checked) → image_answer s ≡ r → if_good r (packed s) ≡ bytes b → GoodImage s × (b ≡ packed s)
pack_by s b (Ok tt) e q = ((image_good s).0 e, cc)
pack_by s b (Err x) e q = absurd (refused-bytes q)

pack_is : (s b : List ℕ) → pack_result s ≡ bytes b → GoodImage s × (b ≡ packed s)
unfolding pack_result
pack_is s b e = pack_by s b (image_answer s) refl e

-- ---- what was written

record Was (t : Result) (lent : List ℕ) (n : ℕ) : Type 0 where
  b : List ℕ
  is : t ≡ bytes b
  long : n ≡ length b
  fits : length b ≤ length lent
  back : take n (output_of t lent) ≡ b

refused-not : {x : Refusal} {n : ℕ} → Err (Refused x) ≡ Ok n → ⊥
refused-not e = let z : ◌≡◌ {A = ℕ} 0 1 = cc in omega arith

ends-not : {p d n : ℕ} → Err (Ends p d) ≡ Ok n → ⊥
ends-not e = let z : ◌≡◌ {A = ℕ} 0 1 = cc in omega arith

was : (t : Result) (lent : List ℕ) (n : ℕ) → Wrote t lent n → Was t lent n
unfolding answer_of output_of
was (refused x) lent n e = absurd (refused-not e)
was (ends p d) lent n e = absurd (ends-not e)
was (bytes b) lent n e =
    by_test (leb (length b) (length lent))
    (λ y.
    let q : Ok (length b) ≡ Ok n = sym (rw y) ∙ e in
    let l : n ≡ length b = cc in
    record { b = b; is = refl; long = l; fits = leb-true _ _ y; back = rw (y, l) (over-take b lent) })
    (λ z. let q : Err (Refused OutputTooShort) ≡ Ok n = sym (rw z) ∙ e in absurd (refused-not q))

writes : (t : Result) (lent b : List ℕ) → t ≡ bytes b → length b ≤ length lent → Writes t lent b
unfolding answer_of output_of
writes t lent b e l = rw e (record { answer = rw (le-leb _ _ l); bytes = rw (le-leb _ _ l) })

-- ---- the claims

pub unpack_undoes_pack : UnpackUndoesPack
unpack_undoes_pack s lent back n w l =
    let k = was (pack_result s) lent n w in
    let (g, e) = pack_is s k.b k.is in
    writes (unpack_result (wrote (pack_result s) lent n)) back s (ap unpacked (k.back ∙ e) ∙ unpacked-packed s g) l

pub never_alike : NeverAlike
never_alike s t lentS lentT n m w v e =
    let k = was (pack_result s) lentS n w in
    let j = was (pack_result t) lentT m v in
    let (g, a) = pack_is s k.b k.is in
    let (h, b) = pack_is t j.b j.is in
    let p : packed s ≡ packed t = sym a ∙ sym k.back ∙ e ∙ j.back ∙ b in
    let q : bytes s ≡ bytes t = sym (unpacked-packed s g) ∙ ap unpacked p ∙ unpacked-packed t h in
    cc

pub pack_undoes_unpack : PackUndoesUnpack
pack_undoes_unpack s lent back n w l =
    let k = was (unpack_result s) lent n w in
    let (g, e) = packed-unpacked s k.b k.is in
    writes (pack_result (wrote (unpack_result s) lent n)) back s (ap pack_result k.back ∙ pack_good k.b g ∙ ap bytes e) l

pub one_form : OneForm
one_form s t lentS lentT n m w v e =
    let k = was (unpack_result s) lentS n w in
    let j = was (unpack_result t) lentT m v in
    let i : k.b ≡ j.b = sym k.back ∙ e ∙ j.back in
    sym (packed-unpacked s k.b k.is).1 ∙ ap packed i ∙ (packed-unpacked t j.b j.is).1

pub unpacked_passes : UnpackedPasses
unpacked_passes s lent n w =
    let k = was (unpack_result s) lent n w in
    ap image_answer k.back ∙ (image_good k.b).1 (packed-unpacked s k.b k.is).0

pub pack_never_longer : PackNeverLonger
pack_never_longer s lent n w =
    let k = was (pack_result s) lent n w in
    omega (arith, k.long, ap length (pack_is s k.b k.is).1, packed_shorter s)

-- ---- the contracts

-- what an operation that is done has written
was_done : (t : Result) (lent after : List ℕ) (r : Packing) → Done t lent after r → is_written r ≡ true → Was t lent (length_written r) × (take (length_written r) after ≡ take (length_written r) (output_of t lent))
was_done t lent after (Ok n) d y = (was t lent n (sym d.answer), ap (take n) d.bytes)
was_done t lent after (Err (Refused x)) d y = absurd (true≢false (sym y))
was_done t lent after (Err (Ends p q)) d y = absurd (true≢false (sym y))

pub pack_done : (s lent after : List ℕ) (r : Packing) → Done (pack_result s) lent after r → PackDone s lent after r
pack_done s lent after r d = record {
  done = d;
  accepted = (
    (λ y.
        let k = (was_done (pack_result s) lent after r d y).0 in
        let (g, e) = pack_is s k.b k.is in
        (g, rw (← e) k.fits)),
    (λ g. ap is_written (d.answer ∙ (writes (pack_result s) lent (packed s) (pack_good s g.0) g.1).answer)),
  );
  shorter = short r d;
  back = λ y.
      let (k, e) = was_done (pack_result s) lent after r d y in
      let (g, q) = pack_is s k.b k.is in
      ap unpacked (e ∙ k.back ∙ q) ∙ unpacked-packed s g;
}
  where
    short : (t : Packing) → Done (pack_result s) lent after t → length_written t ≤ length s
    short (Ok n) q = pack_never_longer s lent n (sym q.answer)
    short (Err (Refused x)) q = omega arith
    short (Err (Ends p e)) q = omega arith

pub unpack_done : (s lent after : List ℕ) (r : Packing) → Done (unpack_result s) lent after r → UnpackDone s lent after r
unpack_done s lent after r d = record {
  done = d;
  accepted = (
    (λ y.
        let k = (was_done (unpack_result s) lent after r d y).0 in
        let (g, q) = packed-unpacked s k.b k.is in
        record { image = k.b; good = g; packs = q; fits = k.fits }),
    (λ i. ap is_written (d.answer ∙ (writes (unpack_result s) lent i.image (ap unpacked (sym i.packs) ∙ unpacked-packed i.image i.good) i.fits).answer)),
  );
  good = λ y.
      let (k, e) = was_done (unpack_result s) lent after r d y in
      rw (e, k.back) (packed-unpacked s k.b k.is).0;
  back = λ y.
      let (k, e) = was_done (unpack_result s) lent after r d y in
      let (g, q) = packed-unpacked s k.b k.is in
      ap pack_result (e ∙ k.back) ∙ pack_good k.b g ∙ ap bytes q;
}

-- a result written, or too long, or none
pub done_written : (b lent after : List ℕ) → length b ≤ length lent → after ≡ over b lent → Done (bytes b) lent after (Ok (length b))
unfolding answer_of output_of
done_written b lent after l e = record { answer = rw (le-leb _ _ l); reply = rw (le-leb _ _ l); bytes = rw (le-leb _ _ l) e }

pub done_too_long : (b lent : List ℕ) → length lent < length b → Done (bytes b) lent lent (Err (Refused OutputTooShort))
unfolding answer_of output_of
done_too_long b lent l = record { answer = rw (lt-leb _ _ l); reply = rw (lt-leb _ _ l); bytes = rw (lt-leb _ _ l) }

pub done_refused : (x : Refusal) (lent : List ℕ) → Done (refused x) lent lent (Err (Refused x))
unfolding answer_of output_of
done_refused x lent = record { answer = refl; reply = refl; bytes = refl }

pub done_ends : (p d : ℕ) (lent : List ℕ) → Done (ends p d) lent lent (Err (Ends p d))
unfolding answer_of output_of
done_ends p d lent = record { answer = refl; reply = refl; bytes = refl }

-- a count is that of an image
pub counted_room : (t : Result) (n : ℕ) → Ok n ≡ counted t → Room t n
counted_room (bytes b) n e = record { image = b; is = refl; long = cc }
counted_room (refused x) n e = absurd (refused-not (sym e))
counted_room (ends p d) n e = absurd (ends-not (sym e))

module _ (s lent : List ℕ) where
  done_part : (b part : List ℕ) (n : ℕ) → n ≡ length b → n ≤ length lent → part ≡ b → Done (bytes b) lent (part ++ drop n lent) (Ok n)
  unfolding over
  done_part b part n e l w = rw (e, w) (done_written b lent (b ++ drop (length b) lent) (omega arith) refl)

  pub pack_refused : (x : Refusal) → image_answer s ≡ Err x → PackDone s lent lent (Err (Refused x))
  unfolding pack_result
  pack_refused x e = pack_done s lent lent (Err (Refused x)) (rw e (done_refused x lent))

  pub pack_too_long : image_answer s ≡ Ok tt → length lent < length (packed s) → PackDone s lent lent (Err (Refused OutputTooShort))
  pack_too_long g l = pack_done s lent lent (Err (Refused OutputTooShort)) (rw (pack_good s ((image_good s).0 g)) (done_too_long (packed s) lent l))

  pub pack_written : (n : ℕ) (after : List ℕ) → image_answer s ≡ Ok tt → n ≡ length (packed s) → n ≤ length lent → after ≡ over (packed s) lent → PackDone s lent after (Ok n)
  pack_written n after g e l w =
      pack_done s lent after (Ok n) (rw (pack_good s ((image_good s).0 g), e) (done_written (packed s) lent after (omega arith) w))

  -- of no cells it is no bytes
  pub pack_nothing : length s ≡ 0 → PackDone s lent lent (Ok 0)
  unfolding image_answer functions packed
  pack_nothing e =
      let n : s ≡ [] = nothing_in s e in
      pack_written 0 lent (rw n) (rw n) (omega arith) (rw n (sym (over_nil lent)))

  pub unpack_too_long : (n : ℕ) → Ok n ≡ counted (unpacked s) → length lent < n → UnpackDone s lent lent (Err (Refused OutputTooShort))
  unpack_too_long n k l =
      let m = counted_room (unpacked s) n k in
      unpack_done s lent lent (Err (Refused OutputTooShort)) (rw m.is (done_too_long m.image lent (omega (arith, m.long))))

  -- into the part `&mut out[..n]`
  pub unpack_written : (n : ℕ) (part : List ℕ) → unpacked s ≡ bytes part → Ok n ≡ counted (unpacked s) → n ≤ length lent → UnpackDone s lent (part ++ drop n lent) (Ok n)
  unpack_written n part e k l =
      let q : Ok n ≡ Ok (length part) = k ∙ ap counted e in
      let m : n ≡ length part = cc in
      unpack_done s lent (part ++ drop n lent) (Ok n) (rw e (done_part part part n m l refl))

  -- what is no image: the answer is that of the count
  not-counted : (t : Result) → ((n : ℕ) → counted t ≡ Ok n → ⊥) → Done t lent lent (counted t)
  not-counted (bytes b) h = absurd (h (length b) refl)
  not-counted (refused x) h = done_refused x lent
  not-counted (ends p d) h = done_ends p d lent

  pub unpack_refused : (r : Packing) → r ≡ counted (unpacked s) → ((n : ℕ) → r ≡ Ok n → ⊥) → UnpackDone s lent lent r
  unpack_refused r e h = rw e (unpack_done s lent lent (counted (unpacked s)) (not-counted (unpacked s) (λ n q. h n (e ∙ q))))
