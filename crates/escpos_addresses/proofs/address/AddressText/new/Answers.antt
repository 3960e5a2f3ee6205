use Rattle.std.proofs.Common.{◌≡◌, ◌∙◌, ◌++◌, ◌≤◌, ◌-◌, ap, arith, drop, length, replicate, ℕ, List}
use Rattle.std.proofs.lemmas.List.{length-append, length-drop, length-replicate, drop-replicate}
use Rattle.std.proofs.Math.Seq.{drop-append_seam}
use Rattle.escpos_addresses.proofs.address.AddressText.new.Goals as goal

-- A text over the start of zeros: the length stays, and zeros follow the text.
over_zeros : (text bytes : List ℕ) (most : ℕ) → length text ≤ most → bytes ≡ text ++ drop (length text) (replicate most 0)
    → (length bytes ≡ most) × (drop (length text) bytes ≡ replicate (most - length text) 0)
over_zeros text bytes most fits is =
    let zeros : List ℕ = replicate most 0 in (
      omega (arith, ap length is ∙ length-append text (drop (length text) zeros), length-drop (length text) zeros, length-replicate {A = ℕ} most 0),
      ap (drop (length text)) is ∙ drop-append_seam text (drop (length text) zeros) ∙ drop-replicate (length text) most 0,
    )

pub invariant_of-result : goal.invariant_of-result
invariant_of-result c =
    let is = c.put.ensures ∙ ap (λ (t : List ℕ). t ++ drop (length t) (replicate 259 0)) c.as_bytes.ensures.value in
    let (long, zeros) = over_zeros c.args.text.now c.put.new.bytes 259 c.requires is in
    (c.requires, long, zeros)
