pub mod ChainBytes
