-- wrong_logs: fields of stream_correct that each refuse a list of calls. Assumes nothing.
use Rattle.std.proofs.Common.{◌≡◌, ℕ, List, [], ◌∷◌, length, sym, refl, ap, ◌∙◌, true≢false, arith}
use mathlib.Core.List.{cons≢nil, head-eq_of_cons-eq}
use Rattle.base.specs.Keys.{among}
use Rattle.base.specs.Sums.{total}
use Rattle.frame.specs.Wire.{frame_limit, stuff}
use Rattle.frame.specs.FramesComputed.{unstuff, frames_of, starts_with, candidate, is_sum, is_good, here}
use Rattle.frame.specs.FramesComputed.{frames_from}
use Rattle.frame.specs.Frames.{Found, found, front_body}
use Rattle.frame.specs.Logs.{Entry, stream, delivered, Chains}
use Rattle.frame.specs.Accounts.{Account, Accounts}
use Rattle.frame.specs.StreamCorrect.{StreamCorrect}
use Rattle.frame.specs.WrongLogs.{heartbeat, WrongLogsRefused}

-- the account of the first call of a list
first : {limit : ℕ} {e : Entry} {es : List Entry} → StreamCorrect limit (e ∷ es) → Account 0 e
unfolding Accounts
first d = d.accounts.0

-- the frames of the streams below
one_frame : frames_of frame_limit heartbeat
    ≡ found 0 9 (0x00 ∷ 0x05 ∷ 0x07 ∷ 0x01 ∷ 0x00 ∷ 0x00 ∷ 0x0D ∷ []) ∷ []
unfolding total stuff unstuff starts_with candidate is_sum is_good here frames_from
one_frame = refl

none : frames_of frame_limit (7 ∷ []) ≡ []
unfolding total stuff unstuff starts_with candidate is_sum is_good here frames_from
none = refl

pub wrong_logs : WrongLogsRefused
unfolding among stream delivered Accounts Chains
wrong_logs limit r q =
    record {
      feed_clean = λ d. true≢false (sym ((first d).feed_row _ refl));
      feed_open = λ d. true≢false (sym ((first d).feed_row _ refl));
      feed_state = λ d. true≢false (sym ((first d).feed_row _ refl));
      feed_other = λ bytes v k h d. true≢false (sym ((first d).feed_row bytes refl) ∙ h);
      finish_more = λ d. true≢false (sym ((first d).finish_row refl));
      finish_frame = λ d. true≢false (sym ((first d).finish_row refl));
      finish_state = λ d. true≢false (sym ((first d).finish_row refl));
      finish_99 = λ d. true≢false (sym ((first d).finish_row refl));
      finish_other = λ v k h d. true≢false (sym ((first d).finish_row refl) ∙ h);
      too_many = λ k v d. omega (arith, (first d).within);
      more_one = λ d. omega (arith, (first d).all refl);
      more_none = λ d. omega (arith, (first d).all refl);
      none_consumed = λ k v n d. omega (arith, (first d).progress n (omega arith));
      empty_decides = λ k v n d. n ((first d).empty refl).0;
      empty_changes = λ n d. n ((first d).empty refl).1;
      frame_end = λ d. omega (arith, (first d).ends refl);
      short_end = λ d. omega (arith, (first d).ends refl);
      long_end = λ d. omega (arith, (first d).ends refl);
      stuff_end = λ d. omega (arith, (first d).ends refl);
      cut_end = λ d. omega (arith, (first d).ends refl);
      sum_end = λ d. omega (arith, (first d).ends refl);
      late_end = λ d. omega (arith, (first d).ends refl);
      used_soon = λ d. omega (arith, (first d).used refl);
      used_not = λ bytes v k h n d. omega (arith, (first d).unused n);
      used_consumes = λ bytes d. omega (arith, (first d).used_none refl);
      used_changes = λ bytes n d. n ((first d).used_kept refl);
      finish_length = λ d. omega (arith, (first d).finished refl);
      finish_changes = λ n d. n ((first d).finish_kept refl);
      not_fresh = λ n d. n d.chains.0;
      not_chained = λ n d. n d.chains.1.0;
      counts_anew = λ d. omega (arith, d.accounts.1.0.finished refl);
      no_frame = λ d. cons≢nil (d.frames ∙ none);
      not_delivered = λ d. cons≢nil (sym (d.frames ∙ one_frame));
      other_start = λ d.
          let z : ◌≡◌ {A = ℕ} 1 0 = ap (λ (f : Found). f.start) (head-eq_of_cons-eq (d.frames ∙ one_frame)) in
          omega arith;
      other_body = λ n d.
          let z : length (front_body q.body) ≡ 7 =
          ap (λ (f : Found). length f.body) (head-eq_of_cons-eq (d.frames ∙ one_frame)) in
          let empty : ◌≡◌ {A = ℕ} 0 7 = rw n at z in
          omega arith;
    }
