-- A chain on bytes is a chain on values: of the machine that was read, with what the bytes say.
use mathlib.Core.Path.{◌≡◌, sym, ap, ◌∙◌, subst}
use mathlib.Core.List.{List}
use Prim.Native.Nat.{ℕ}
use Rattle.model.specs.Answers.{fields}
use Rattle.model.specs.Table.{Machine}
use Rattle.wire.specs.Bytes.{Bytes}
use Rattle.table_file.specs.File.{machine, read_file, given}
use Rattle.agree.specs.Chain.{Call, Chain, begun, called}
use Rattle.player_bytes.specs.Records.{config_in, records_in}
use Rattle.player_bytes.proofs.ValueLaws.{Lent, start-read, start-room, start-lent, start-values, play-lent, play-values}
use Rattle.agree_bytes.specs.ChainBytes.{ChainBytes, begun_bytes, called_bytes}

-- what a chain on bytes is on values, and what its file and its buffers are
pub record OnValues (file config₀ waiting₀ config waiting : List ℕ) (h : List Call) : Type 0 where
  pub read : Machine
  pub reads : read_file file ≡ machine read
  pub chain : Chain read (config_in config) (records_in waiting) h
  pub bytes : Bytes file
  pub first : Lent config₀ waiting₀
  pub lent : Lent config waiting

module _ {file config₀ waiting₀ : List ℕ} where
  pub on_values : {config waiting : List ℕ} {h : List Call} → ChainBytes file config₀ waiting₀ config waiting h
      → OnValues file config₀ waiting₀ config waiting h
  on_values {config} {waiting} (begun_bytes b w o) =
      let r = start-read file b config₀ waiting₀ w config waiting o in
      record {
        read = r.0;
        reads = r.1;
        chain = begun (records_in waiting) (start-values file b config₀ waiting₀ w config waiting r.0 r.1 o);
        bytes = b;
        first = start-room file b config₀ waiting₀ w config waiting r.0 r.1 o;
        lent = start-lent file b config₀ waiting₀ w config waiting r.0 r.1 o;
      }
  on_values (called_bytes {config = config} {waiting = waiting} {config' = config'} {waiting' = waiting'} mv i j x s o) =
      let y = on_values x in
      let w = y.lent.bytes in
      record {
        read = y.read;
        reads = y.reads;
        chain = called mv i j y.chain s
            (play-values file y.bytes config waiting w config' waiting' y.read y.reads mv (fields 0 i j 0) y.lent o);
        bytes = y.bytes;
        first = y.first;
        lent = play-lent file y.bytes config waiting w config' waiting' y.read y.reads mv (fields 0 i j 0) y.lent o;
      }

  module _ {config waiting : List ℕ} {h : List Call} (x : ChainBytes file config₀ waiting₀ config waiting h) where
    pub decoded : (m : Machine) × (read_file file ≡ machine m) × Chain m (config_in config) (records_in waiting) h
    decoded = let y = on_values x in (y.read, y.reads, y.chain)

    -- a file has one machine
    pub decoded-of : (m : Machine) → read_file file ≡ machine m → Chain m (config_in config) (records_in waiting) h
    decoded-of m e =
        let y = on_values x in
        subst (λ (k : Machine). Chain k (config_in config) (records_in waiting) h) (ap given (sym y.reads ∙ e)) y.chain
