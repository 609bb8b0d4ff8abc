-- The four kinds of frame in chips and what stands before the frame (document 01, "Sync search"; EN 13757-4:2019,
-- 7.4.2.3, 9.4.2).
--     sync_bytes k    the sync chips of a kind, as bytes: 16 chips for T, 32 for C, none for Manchester
--     lead_of k       how many chips they are: the frame's first chip stands so many places behind the sync word's
-- Mode T and Manchester have format A only, and no other kind exists: 12.1 has the format told by the sync word.
use Rattle.std.specs.Prelude.{List, [], ◌∷◌, ℕ, ◌*◌, length}
use Rattle.sync.specs.declared.Kind.{Kind}
use Rattle.sync.specs.declared.Kind.TheVariants.{TWithA, CWithA, CWithB, ManchesterWithA}

abbrev pub sync_bytes : Kind → List ℕ
sync_bytes TWithA = 0x54 ∷ 0x3D ∷ []
sync_bytes CWithA = 0x54 ∷ 0x3D ∷ 0x54 ∷ 0xCD ∷ []
sync_bytes CWithB = 0x54 ∷ 0x3D ∷ 0x54 ∷ 0x3D ∷ []
sync_bytes ManchesterWithA = []

abbrev pub lead_of : Kind → ℕ
lead_of k = 8 * length (sync_bytes k)
