use mathlib.Core.Path.{◌≡◌, sym, ap, ◌∙◌}
use mathlib.Core.Bool.{Bool, true}
use mathlib.Core.List.{List}
use Prim.Native.Nat.{ℕ}
use lib.ListN.{drop}
use Rattle.definitions.specs.Bytes.{id_at}
use Rattle.definitions.specs.Header.{header_of}
use Rattle.definitions.specs.Chain.{has_header}
use Rattle.blocks.specs.declared.header.BlockHeader.{BlockHeader}
use Rattle.definitions.specs.Reply.{answer}
use Rattle.blocks.specs.Meaning.{header_meant}
use Rattle.places.proofs.Addresses.{id_from}
use Rattle.places.proofs.Blocks.{Named, header_stands, block_nowhere, block_other, block_named, block_linked, block_short, block_cut, block_read}
use Rattle.places.proofs.block.data_block_at.Goals as goal
use Rattle.places.proofs.block.data_block_at.Goals.{then-not-id_at-via-then-not-id_at, then-not-id_at-via-else-not-id_at+then-header-ne0, then-not-id_at-via-else-not-id_at+else-header-ne0+then-header-lt24, then-not-id_at-via-else-not-id_at+else-header-ne0+else-header-lt24+then-ends_outside}

pub returns-then-not-has_header : goal.returns-then-not-has_header
returns-then-not-has_header c = block_nowhere _ _ _ (sym c.has_header.ensures ∙ c.if-not-has_header.true)

-- what was read stands at the address, so it cannot be refused
pub returns-in_err-header : goal.returns-in_err-header
returns-in_err-header c =
    let a = c.args in
    header_stands a.id.now a.file.now a.address.0 (sym c.has_header.ensures ∙ c.if-not-has_header.false) _ _
    (sym (c.in_err-header.ensures ∙ ap header_of c.bytes_from-bytes.ensures))

module _ (f id : List ℕ) (a : ℕ) (s : List ℕ) (from : s ≡ drop a f) (b : Bool) (same : b ≡ id_at s 0 id) where
  -- the id that was compared is that at the address
  id_is : b ≡ id_at f a id
  id_is = same ∙ ap (λ (t : List ℕ). id_at t 0 id) from ∙ id_from f a id

  -- the block has the wanted id
  named : (x : BlockHeader) → has_header f a ≡ true → answer (header_meant x) ≡ header_of s → b ≡ true → Named id f a (header_meant x)
  named x there read e = block_named id f a _ there (sym (read ∙ ap header_of from)) (sym id_is ∙ e)

-- a block with another id, with links, or with a length that no data block has there
pub returns-then-not-id_at : goal.returns-then-not-id_at
returns-then-not-id_at c =
    let a = c.args in
    let there = sym c.has_header.ensures ∙ c.if-not-has_header.false in
    let is = named a.file.now a.id.now a.address.0 _ c.bytes_from-bytes.ensures _ c.id_at.ensures _ there c.in_ok-header.ensures in
    elim c.then-not-id_at.branch [
      | then-not-id_at-via-then-not-id_at w ↦
          block_other _ _ _ there (sym (id_is a.file.now a.id.now a.address.0 _ c.bytes_from-bytes.ensures _ c.id_at.ensures) ∙ w.if-not-id_at.true)
      | then-not-id_at-via-else-not-id_at+then-header-ne0 w ↦ block_linked _ _ _ _ (is w.if-not-id_at.false) w.if-header-ne0.true
      | then-not-id_at-via-else-not-id_at+else-header-ne0+then-header-lt24 w ↦
          block_short _ _ _ _ (is w.if-not-id_at.false) w.if-header-ne0.false w.if-header-lt24.true
      | then-not-id_at-via-else-not-id_at+else-header-ne0+else-header-lt24+then-ends_outside w ↦
          block_cut _ _ _ _ (is w.if-not-id_at.false) w.if-header-ne0.false w.if-header-lt24.false (sym w.ends_outside.ensures ∙ w.if-ends_outside.true)
    ]

pub returns : goal.returns
returns c =
    let a = c.args in
    block_read _ _ _ _
    (named a.file.now a.id.now a.address.0 _ c.bytes_from-bytes.ensures _ c.id_at.ensures _ (sym c.has_header.ensures ∙ c.if-not-has_header.false)
    c.in_ok-header.ensures c.if-not-id_at.false)
    c.if-header-ne0.false c.if-header-lt24.false (sym c.ends_outside.ensures ∙ c.if-ends_outside.false)
