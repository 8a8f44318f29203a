-- Every refusal of a read request has one of the table's numbers, and none is 11, which is of a lent buffer alone.
--     refuses_request     a request is refused as its fields are: those before the blocks, and the blocks
--     numbered_request    with numbers of the table
use Prim.Native.Nat.{ℕ}
use mathlib.Core.Bool.{Bool}
use mathlib.Core.List.{List}
use lib.Dec.{eqb}
use Rattle.basics.specs.Limits.{blocks_most, copies_most}
use Rattle.basics.proofs.Choice.{pick_elim}
use Rattle.field.specs.Sheet.{Note, note, Parser}
use Rattle.field.proofs.Known.{Refuses, Numbered, Shared, shared_own, numbered_bind, numbered_then, numbered_pure, numbered_here}
use Rattle.field.proofs.Known.{numbered_require, numbered_times, numbered_between, numbered_ascending}
use Rattle.field.proofs.Known.{refuses_number, refuses_between, refuses_opening, refuses_whole, own_six, own_seven, own_ten, own_twenty}
use Rattle.request.specs.declared.Head.{Head}
use Rattle.request.specs.Request.{kinds, last_disk, block, opening, age, heading, body, request_sheet}

module _ {P : List ℕ → Note → Type 0} (c : Shared P) (six : (s : List ℕ) (p : ℕ) → P s (note 6 p))
    (ten : (s : List ℕ) (p : ℕ) → P s (note 10 p)) where
  refuses_open : (unit t n : ℕ) → Refuses P (opening unit t n)
  unfolding opening
  refuses_open unit t n =
      numbered_bind (refuses_opening c kinds unit t)
      (λ k. numbered_bind numbered_here (λ at. numbered_then (numbered_require _ _ (λ s. ten s at)) (numbered_pure k)))

  refuses_age : (k : ℕ) → Refuses P (age k)
  unfolding age
  refuses_age k = pick_elim (λ (p : Parser ℕ). Refuses P p) (eqb k 4) _ _ (λ _. refuses_number c) (λ _. numbered_pure 0)

  refuses_heading : (unit t n : ℕ) → Refuses P (heading unit t n)
  unfolding heading
  refuses_heading unit t n =
      numbered_bind (refuses_open unit t n)
      (λ k. numbered_bind (refuses_age k) (λ a.
      numbered_bind (refuses_between c 0 blocks_most 6 6 six six) (λ q. numbered_pure _)))

  refuses_body : (h : Head) (high : ℕ) (out : ℕ → Bool) → Refuses P (block high out) → Refuses P (body h high out)
  unfolding body
  refuses_body h high out w = numbered_bind (numbered_times h.blocks w) (λ ms. numbered_pure _)

  pub refuses_request : (unit t n : ℕ) (out : ℕ → Bool) → Refuses P (block (last_disk n) out) → Refuses P (request_sheet unit t n out)
  unfolding request_sheet
  refuses_request unit t n out w =
      refuses_whole c (numbered_bind (refuses_heading unit t n) (λ h. refuses_body h (last_disk n) out w))

numbered_block : (high : ℕ) (out : ℕ → Bool) → Numbered (block high out)
unfolding block
numbered_block high out =
    numbered_bind (numbered_between 1 copies_most own_seven own_six)
    (λ k. numbered_bind (numbered_ascending k 0 high)
    (λ ds. numbered_bind numbered_here (λ next. numbered_then (numbered_require _ _ (λ s. own_twenty)) (numbered_pure _))))

pub numbered_request : (unit t n : ℕ) (out : ℕ → Bool) → Numbered (request_sheet unit t n out)
numbered_request unit t n out =
    refuses_request shared_own (λ s p. own_six) (λ s p. own_ten) unit t n out (numbered_block (last_disk n) out)
