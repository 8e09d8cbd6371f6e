-- Parts of the bytes, with the bytes themselves in the place of the references to them.
use Rattle.flatbuf.specs.declared.batches.Batch.{Batch}
use Rattle.flatbuf.specs.declared.batches.DictionaryBatch.{DictionaryBatch}
use Rattle.flatbuf.specs.Flat.{Dictionary, Parts}

abbrev pub parts_in : Batch → Parts
parts_in b = record { long = b.long; compressed = b.compressed; missing = b.missing; nodes = b.nodes.bytes.now; buffers = b.buffers.bytes.now; counts = b.counts.bytes.now }

abbrev pub dictionary_in : DictionaryBatch → Dictionary
dictionary_in d = record { id = d.id; delta = d.delta; parts = parts_in d.data }
