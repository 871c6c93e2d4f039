-- A call holds if the operation agrees with its head.
use Prim.Native.Nat.{ℕ, ◌+◌, ◌≤◌, ◌<◌}
use mathlib.Core.Path.{◌≡◌, sym, ◌∙◌, ap}
use mathlib.Core.Logic.{◌↔◌}
use mathlib.Core.Bool.{Bool, true, false, ◌&&◌}
use mathlib.Core.List.{List, ◌++◌}
use native.Mathlib.Omega.{arith}
use lib.ListN.{length, take, drop}
use Rattle.cells.specs.Bytes.{byte, word}
use Rattle.cells.specs.Cells.{over}
use Rattle.cells.proofs.Over.{copied}
use Rattle.cases_passes.specs.Operations.{asked_by, answer, output}
use Rattle.cases_passes.specs.Rows.{marks, lent, Agrees, reply_in, room_in, answers_in, Fits, HoldsAs, Holds}
use Rattle.cases_passes.specs.declared.operation.Operation.{Operation}
use Rattle.cases_passes.specs.declared.operation.Reply.{Reply}
use Rattle.cases_passes.specs.States.{HoldsIn}
use Rattle.cases_passes.specs.declared.records.State.{State}
use Rattle.casebook.proofs.Decides.{no, both, through}
use Rattle.std.specs.Prelude.{Option, Some, None}

-- ---- an operation and its output

pub lent-bytes : (o : Operation) (s out part : List ℕ) (n m : ℕ) → out ≡ marks m → part ≡ output o s (take n out) → part ++ drop n out ≡ lent o s n (marks m)
unfolding lent
lent-bytes o s out part n m e f = rw (f, e)

pub model_bytes : (want before after : List ℕ) (m : ℕ) → before ≡ marks m → after ≡ take (length want) want ++ drop (length want) before → after ≡ over want (marks m)
model_bytes want before after m e f = f ∙ copied want before ∙ ap (over want) e

pub agreed : (o : Operation) (s want out model : List ℕ) (got r : Reply) (n m : ℕ) (x y : Bool) → got ≡ answer o s n → out ≡ lent o s n (marks m)
    → model ≡ over want (marks m) → (x ≡ true) ↔ (got ≡ r) → (y ≡ true) ↔ (out ≡ model) → ((x && y) ≡ true) ↔ Agrees o s want r n m
agreed o s want out model got r n m x y e a b f g =
    through (x && y) (both x y f g)
    (λ (h : (got ≡ r) × (out ≡ model)). record { reply = sym e ∙ h.0; bytes = sym a ∙ h.1 ∙ b })
    (λ (h : Agrees o s want r n m). (e ∙ h.reply, a ∙ h.bytes ∙ sym b))

-- ---- a head

module _ (h s want : List ℕ) (n : ℕ) (en : n ≡ answers_in h) (a : Option Operation) (asked : a ≡ asked_by (byte h 0) n) where
  holds_as : Holds h s want → HoldsAs a h s want
  unfolding Holds
  holds_as p = rw (asked, en) p

  as_holds : HoldsAs a h s want → Holds h s want
  unfolding Holds
  as_holds p = rw (asked, en) at p

  refused : (r : Bool) → r ≡ false → (HoldsAs a h s want → ⊥) → (r ≡ true) ↔ Holds h s want
  refused r e f = rw e (no (λ (p : Holds h s want). f (holds_as p)))

  pub unknown : (r : Bool) → r ≡ false → a ≡ None → (r ≡ true) ↔ Holds h s want
  unknown r e f = refused r e (λ (p : HoldsAs a h s want). rw f at p)

  module _ (o : Operation) (known : a ≡ Some o) (room : ℕ) (e : Reply) (er : room ≡ room_in h) (ee : e ≡ reply_in h) where
    fits : HoldsAs a h s want → Fits o h s want
    fits p = rw known at p

    length_in : e.length ≡ word h 12
    length_in = ap (λ (x : Reply). x.length) ee

    pub too_far : (r : Bool) → r ≡ false → 242440 < room → (r ≡ true) ↔ Holds h s want
    too_far r d k = refused r d (λ (p : HoldsAs a h s want). omega (arith, (fits p).room, er))

    pub too_long_lem : (r : Bool) → r ≡ false → room < e.length → (r ≡ true) ↔ Holds h s want
    too_long_lem r d k = refused r d (λ (p : HoldsAs a h s want). omega (arith, (fits p).short, length_in, er))

    pub cut_past : (r : Bool) → r ≡ false → room < n → (r ≡ true) ↔ Holds h s want
    cut_past r d k = refused r d (λ (p : HoldsAs a h s want). omega (arith, (fits p).cut, en, er))

    pub not_given : (r : Bool) → r ≡ false → length want < e.length → (r ≡ true) ↔ Holds h s want
    not_given r d k = refused r d (λ (p : HoldsAs a h s want). omega (arith, (fits p).given, length_in))

    pub held : (r : Bool) → room ≤ 242440 → e.length ≤ room → n ≤ room → e.length ≤ length want → (r ≡ true) ↔ Agrees o s (take e.length want) e room (room + 64)
        → (r ≡ true) ↔ Holds h s want
    held r i j c k f =
        let i' : room_in h ≤ 242440 = omega (arith, er) in
        let j' : word h 12 ≤ room_in h = omega (arith, length_in, er) in
        let c' : answers_in h ≤ room_in h = omega (arith, en, er) in
        let k' : word h 12 ≤ length want = omega (arith, length_in) in
        through r f
        (λ (g : Agrees o s (take e.length want) e room (room + 64)). as_holds (rw known (record { room = i'; short = j'; cut = c'; given = k'; agrees = rw (ee, er) at g })))
        (λ (p : Holds h s want). rw (ee, er) (fits (holds_as p)).agrees)

-- ---- in the buffers

module _ (h name image want : List ℕ) (s : State) where
  pub held_in : (r : Bool) → s.name ≤ length name → s.image ≤ length image → s.want ≤ length want → (r ≡ true) ↔ Holds h (take s.image image) (take s.want want)
      → (r ≡ true) ↔ HoldsIn h name image want s
  held_in r a b c f =
      through r f
      (λ (p : Holds h (take s.image image) (take s.want want)). record { named = a; sent = b; wanted = c; holds = p })
      (λ (p : HoldsIn h name image want s). p.holds)

  pub no_name : length name < s.name → (false ≡ true) ↔ HoldsIn h name image want s
  no_name k = no (λ (p : HoldsIn h name image want s). omega (arith, p.named))

  pub no_image : length image < s.image → (false ≡ true) ↔ HoldsIn h name image want s
  no_image k = no (λ (p : HoldsIn h name image want s). omega (arith, p.sent))

  pub no_output : length want < s.want → (false ≡ true) ↔ HoldsIn h name image want s
  no_output k = no (λ (p : HoldsIn h name image want s). omega (arith, p.wanted))
