-- Where the meters stand after a restore (specs/Changes), and how many there are: ms are the store's, fs the file's, in
-- which none stands twice.
--     newcomers ms fs       the addresses of the file's meters that are not held, in its order
--     addresses-restored    all that were held keep their places, and the newcomers come behind them
--     length-restored       so many there are
-- Assumes nothing.
use mathlib.Core.Bool.{true, false, cond, true≢false}
use mathlib.Core.List.{List, [], ◌∷◌, ◌++◌, append-nil}
use mathlib.Core.Path.{◌≡◌, refl, ap, sym, ◌∙◌}
use Prim.Native.Nat.{ℕ, ◌+◌}
use borrow.Author.Tests.{eqb-false}
use lib.Dec.{eqb}
use lib.ListN.{length, length-map, length-append}
use lib.Seq.{append_snoc}
use Rattle.ground.proofs.CaseLaws.{by_test}
use Rattle.sessions.specs.declared.Meter.{Meter}
use Rattle.sessions.specs.Meters.{meter_of, holds, put}
use Rattle.sessions.specs.Changes.{merged, restored}
use Rattle.sessions.specs.StoreFile.{unlike}
use Rattle.sessions.proofs.PutLaws.{holds_put_other, addresses, addresses_put_held, addresses_put_new}
use Rattle.sessions.proofs.UnlikeLaws.{unlike_first, unlike_rest}

unfoldable pub newcomers : List Meter → List Meter → List ℕ
newcomers ms [] = []
newcomers ms (f ∷ fs) = cond (holds f.address ms) (newcomers ms fs) (f.address ∷ newcomers ms fs)

-- a meter that is not in the file is put in
newcomers_put :
    (a : ℕ) (m : Meter) (ms fs : List Meter) → m.address ≡ a → holds a fs ≡ false
    → newcomers (put a m ms) fs ≡ newcomers ms fs
unfolding newcomers holds
newcomers_put a m ms [] here h = refl
newcomers_put a m ms (f ∷ fs) here h =
    by_test (eqb f.address a) (λ e. absurd (true≢false (rw e at h)))
    (λ e. rw (holds_put_other a f.address m here (eqb-false _ _ e) ms, newcomers_put a m ms fs here (rw e at h)))

pub addresses-restored :
    (ms fs : List Meter) → unlike [] fs ≡ true → addresses (restored ms fs) ≡ addresses ms ++ newcomers ms fs
unfolding restored newcomers
addresses-restored ms [] once = sym (append-nil (addresses ms))
addresses-restored ms (f ∷ fs) once =
    let m = merged (meter_of f.address ms) f in
    let rest = newcomers_put f.address m ms fs refl (unlike_first f fs once) in
    addresses-restored (put f.address m ms) fs (unlike_rest f fs once)
    ∙ by_test (holds f.address ms) (λ h. rw (rest, addresses_put_held f.address m refl ms h, h))
    (λ h. rw (rest, addresses_put_new f.address m refl ms h, h)
    (append_snoc (addresses ms) f.address (newcomers ms fs)))

pub length-restored :
    (ms fs : List Meter) → unlike [] fs ≡ true → length (restored ms fs) ≡ length ms + length (newcomers ms fs)
length-restored ms fs once =
    sym (length-map (restored ms fs) (λ m. m.address))
    ∙ (ap length (addresses-restored ms fs once)
    ∙ (length-append (addresses ms) (newcomers ms fs)
    ∙ ap (λ k. k + length (newcomers ms fs)) (length-map ms (λ m. m.address))))
