-- A frame that stands in front of some bytes: its length, its payload and what follows are read off them.
use Rattle.std.proofs.Common.{ℕ, ◌≡◌, ◌≤◌, ◌<◌, ◌+◌, ◌^◌, List, ◌++◌, take, drop, length, ap, sym, ◌∙◌, arith}
use Rattle.std.proofs.lemmas.List.{length-append, drop-append-le}
use Rattle.std.proofs.Math.Seq.{drop-append_seam, take-append_seam}
use Rattle.zk_frames.specs.Frame.{frame, length_field}
use Rattle.zk_turns.proofs.Pieces.{length-frame, drop-frame, same_field}
use Rattle.zk_laws.proofs.Framed.{field_of}

module _ (payload rest bytes : List ℕ) (e : bytes ≡ frame payload ++ rest) where
  pub front_there : 4 + length payload ≤ length bytes
  front_there = let n = length-frame payload in let all : length bytes ≡ length (frame payload) + length rest =
      ap length e ∙ length-append (frame payload) rest in omega (arith, n, all)

  pub front_field : length payload < 2 ^ 31 → length_field bytes ≡ length payload
  front_field small = let n = length-frame payload in
      ap length_field e ∙ same_field (frame payload) rest (omega (arith, n)) ∙ field_of payload small

  pub front_behind : drop (4 + length payload) bytes ≡ rest
  front_behind = ap (λ n. drop n bytes) (sym (length-frame payload)) ∙ ap (drop (length (frame payload))) e
      ∙ drop-append_seam (frame payload) rest

  pub front_payload : take (length payload) (drop 4 bytes) ≡ payload
  front_payload =
      let n = length-frame payload in
      ap (λ bs. take (length payload) (drop 4 bs)) e ∙ ap (take (length payload))
      (drop-append-le 4 (frame payload) rest (omega (arith, n)) ∙ ap (λ bs. bs ++ rest) (drop-frame payload))
      ∙ take-append_seam payload rest
