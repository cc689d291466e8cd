-- The figures of the code's own link, from its history. Assumes nothing.
use Rattle.std.proofs.Common.{◌≡◌, ℕ, zero, suc, ◌+◌, ◌<◌, ◌∷◌, get_or, sym, ap, ◌∙◌, add-zero, zero-add, arith}
use Rattle.link.specs.Sending.{first_number, max_repeats, number_at}
use Rattle.link.specs.Logs.{numbers_from}
use Rattle.link.specs.Figures.{HistoryFigures}
use Rattle.link.proofs.Histories.{link_history}

-- the i-th of the numbers from the k-th on
number_from : (first k n i : ℕ) → i < n → get_or (numbers_from first k n) i 0 ≡ number_at first (k + i)
unfolding numbers_from
number_from first k zero i h = absurd (omega (arith, h))
number_from first k (suc n) zero h = rw add-zero
number_from first k (suc n) (suc i) h =
    number_from first (suc k) n i (omega (arith, h)) ∙ ap (number_at first) (omega arith)

pub history_figures : HistoryFigures
history_figures calls =
    let h = link_history first_number max_repeats (omega arith) calls in
    record {
      numbers = λ k l. ap (λ ns. get_or ns k 0) h.numbers ∙ number_from 0 0 _ k l ∙ simp zero-add;
      ticks = λ before a during e after clock p q n c.
          rw (c, sym (h.waits before a during (e ∷ after) p q n).each) at (h.waiting before a during e after p q n);
      sendings = λ before a during after p q n. let w = h.waits before a during after p q n in omega (arith, w.few);
      ends = λ before a during after p q d. h.ends before a during after p q (omega (arith, d));
    }
