-- What a slice of bytes is: the kit says of each element, in every function that is lent one, that it fits 8 bits. That is `Bytes`, which the theorems on reading ask of a blob.
-- Assumes nothing.
use Prim.Native.Nat.{ℕ}
use mathlib.Core.List.{List}
use lib.ListN.{get_or}
use mir.Syntax.{w8}
use mir.Val.{Fits}
use Rattle.number.specs.Number.{Bytes}

pub slice_bytes : (s : List ℕ) → ((i : ℕ) → Fits w8 (get_or s i 0)) → Bytes s
slice_bytes s f i = (f i).fits
