-- What a received 19, 1D or 1F says. Assumes nothing.
use Prim.Native.Nat.{ℕ, ◌+◌, ◌*◌, ◌<◌}
use mathlib.Core.Path.{◌≡◌, refl, sym, ap, ◌∙◌}
use mathlib.Core.Bool.{true, false, not, true≢false}
use mathlib.Core.Logic.{◌≢◌}
use mathlib.Core.List.{List, [], ◌∷◌}
use native.Mathlib.Omega.{arith}
use borrow.Author.Tests.{eq-eqb, ne_eqb, eqb-true, eqb-false, le-leb, lt-leb}
use lib.Dec.{eqb}
use lib.ListN.{length}
use lib.Seq.{take_all}
use Rattle.base.specs.Keys.{among}
use Rattle.base.specs.Numbers.{two_at}
use Rattle.base.proofs.Tests.{either_way}
use Rattle.message.specs.Layouts.{fits, size_fits}
use Rattle.message.specs.Parts.{bytes_of}
use Rattle.message.specs.Table.{Read}
use Rattle.message.specs.declared.kind.Kind.TheVariants as kind
use Rattle.transfer.specs.Payloads.{faulty, code_in}
use Rattle.transfer.specs.PayloadsExact.{AnnouncementExact, PieceExact, PayloadsExact}
use Rattle.transfer.proofs.ReadLaws.{read_19, size_read, index_read, total-read, bytes_read}
use Rattle.transfer.proofs.ReadLaws.{faulty_19, faulty_1d, faulty_1f, fault_19, fault_1d, fault_1f}
use Rattle.base.specs.Rows.{row}
use Rattle.base.proofs.Keys.{among_holds}
use Rattle.message.specs.Reading.{read_of}

-- ---- whether the size fits

announcement_fits : (p : List ℕ) → length p ≡ 4 + 2 + two_at p 4 + 0 → size_fits kind.Announcement p ≡ true
unfolding fits size_fits
announcement_fits p e = rw (eq-eqb (length p) (4 + 2 + two_at p 4 + 0) e, le-leb 0 (length p) (omega arith))

announcement_unfit : (p : List ℕ) → length p ≢ 4 + 2 + two_at p 4 + 0 → size_fits kind.Announcement p ≡ false
unfolding fits size_fits
announcement_unfit p e = rw (ne_eqb (length p) (4 + 2 + two_at p 4 + 0) e)

module _ (a b c d h l : ℕ) (code : List ℕ) where
  abbrev payload : List ℕ
  payload = a ∷ b ∷ c ∷ d ∷ h ∷ l ∷ code

  right : length code ≡ h * 256 + l → faulty 0x19 payload ≡ false
  right e = faulty_19 payload ∙ ap not (announcement_fits payload (omega (arith, e)))

  announcement : AnnouncementExact a b c d h l code
  announcement =
      record {
        right = right;
        wrong = λ n. faulty_19 payload ∙ ap not (announcement_unfit payload (λ e. n (omega (arith, e))));
        size = λ e. size_read payload (right e) ∙ omega arith;
        code_is = λ e. ap (λ (r : Read). bytes_of r.parts.code payload) (read_19 payload (right e))
            ∙ take_all (h * 256 + l) code (omega (arith, e));
      }

-- a payload without a fault is 6 bytes and the code
short_announcement : (p : List ℕ) → length p < 6 → faulty 0x19 p ≡ true
short_announcement p n = faulty_19 p ∙ ap not (announcement_unfit p (λ e. absurd (omega (arith, e, n))))

code_size : (p : List ℕ) → faulty 0x19 p ≡ false → length (code_in p) + 6 ≡ length p
code_size (a ∷ b ∷ c ∷ d ∷ h ∷ l ∷ code) f =
    either_way (eqb (length code) (h * 256 + l))
    (λ e. let is = ap (λ xs. length xs) ((announcement a b c d h l code).code_is (eqb-true _ _ e)) in
    omega (arith, is))
    (λ e. absurd (true≢false (sym ((announcement a b c d h l code).wrong (eqb-false _ _ e)) ∙ f)))
code_size [] f = absurd (true≢false (sym (short_announcement [] (omega arith)) ∙ f))
code_size (a ∷ []) f = absurd (true≢false (sym (short_announcement (a ∷ []) (omega arith)) ∙ f))
code_size (a ∷ b ∷ []) f = absurd (true≢false (sym (short_announcement (a ∷ b ∷ []) (omega arith)) ∙ f))
code_size (a ∷ b ∷ c ∷ []) f = absurd (true≢false (sym (short_announcement (a ∷ b ∷ c ∷ []) (omega arith)) ∙ f))
code_size (a ∷ b ∷ c ∷ d ∷ []) f =
    absurd (true≢false (sym (short_announcement (a ∷ b ∷ c ∷ d ∷ []) (omega arith)) ∙ f))
code_size (a ∷ b ∷ c ∷ d ∷ h ∷ []) f =
    absurd (true≢false (sym (short_announcement (a ∷ b ∷ c ∷ d ∷ h ∷ []) (omega arith)) ∙ f))

piece_fits : (p : List ℕ) → 4 < length p + 1 → size_fits kind.Piece p ≡ true
unfolding fits size_fits
piece_fits p n = rw (le-leb 4 (length p) (omega (arith, n)), le-leb 0 (length p) (omega arith))

piece_unfit : (p : List ℕ) → length p < 4 → size_fits kind.Piece p ≡ false
unfolding fits size_fits
piece_unfit p n = rw (lt-leb 4 (length p) n)

piece : (a b c d : ℕ) (bytes : List ℕ) → PieceExact a b c d bytes
piece a b c d bytes =
    let p = a ∷ b ∷ c ∷ d ∷ bytes in
    let good = faulty_1d p ∙ ap not (piece_fits p (omega arith)) in
    record {
      right = good;
      index = index_read p good;
      total = total-read p good;
      bytes_are = bytes_read p good;
    }

empty_fits : size_fits kind.Empty [] ≡ true
unfolding fits size_fits among
empty_fits = refl

empty_unfit : (x : ℕ) (p : List ℕ) → size_fits kind.Empty (x ∷ p) ≡ false
unfolding fits size_fits among
empty_unfit x p = rw (ne_eqb (length (x ∷ p)) 0 (λ e. absurd (omega (arith, e))))

pub payloads_exact : PayloadsExact
payloads_exact =
    record {
      announcement = announcement;
      short_announcement = short_announcement;
      code_size = code_size;
      piece = piece;
      short_piece = λ p n. faulty_1d p ∙ ap not (piece_unfit p n);
      stop = faulty_1f [] ∙ ap not empty_fits;
      fault = λ c p m. among_holds (λ k. faulty k p ≡ true → read_of k p ≡ row 32 []) c (0x19 ∷ 0x1D ∷ 0x1F ∷ [])
          (fault_19 p, (fault_1d p, (fault_1f p, tt))) m;
      long_stop = λ x p. faulty_1f (x ∷ p) ∙ ap not (empty_unfit x p);
    }
