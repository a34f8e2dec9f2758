-- Document 01, "Numbers on the panel", and document 02, wish 8: the number of each refusal.
use Rattle.std.specs.Prelude.{ℕ}
use Rattle.answer.specs.declared.refusal.Refusal.{Refusal}
use Rattle.answer.specs.declared.refusal.Fault.{Fault}
use Rattle.answer.specs.declared.refusal.Refusal.TheVariants.{BlobTooLong, BytesEnd, MalformedNumber, CountOutOfRange, ByteNotAllowed, TooDeep, WrongTag, RowOutOfRange, BytesLeft, TooManyNodes, TooFewRecords, UnknownKind, TableTooLarge, NoBlob, OutputTooShort, NoSuchRow, NothingToAcknowledge, AlreadyMarked, SizeOutOfRange, TooFewWords}

abbrev pub number_of : Refusal → ℕ
-- "blob over 4,096 bytes"
number_of BlobTooLong = 1
-- "bytes end inside or before an item"
number_of BytesEnd = 2
-- "malformed number"
number_of MalformedNumber = 3
-- "a count, Rank, NumSizes or NumLoBounds breaks its rule"
number_of CountOutOfRange = 4
-- "byte not allowed here"
number_of ByteNotAllowed = 5
-- "node deeper than 32"
number_of TooDeep = 6
-- "tag 3, or TypeSpec tag after 11 or 12"
number_of WrongTag = 7
-- "row 0 or above its count"
number_of RowOutOfRange = 8
-- "bytes left over"
number_of BytesLeft = 9
-- "a 1,025th node"
number_of TooManyNodes = 10
-- "fewer records lent than nodes"
number_of TooFewRecords = 11
-- "unknown kind"
number_of UnknownKind = 12
-- "a table count above FFFFFF"
number_of TableTooLarge = 13
-- "no blob of this kind under these counts has this table"
number_of NoBlob = 14
-- "output too short"
number_of OutputTooShort = 15
-- "row not in 1..rows"
number_of NoSuchRow = 16
-- "acknowledge on EMPTY or CLEAN"
number_of NothingToAcknowledge = 17
-- "already marked"
number_of AlreadyMarked = 18
-- "opening with a size not 1..64; any other call on a size above 64"; document 02, wish 8, has 512 for 64
number_of SizeOutOfRange = 19
-- "too little, that is fewer than 16 32-bit numbers for each row"
number_of TooFewWords = 27

abbrev pub fault_at : Refusal → (place : ℕ) → Fault
fault_at refusal place = record { refusal = refusal; place = place }
